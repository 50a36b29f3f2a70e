use Rattle.mon_compile.proofs.Contents.{content_law}
use Rattle.mon_compile.proofs.scheme_laws.compiled_programs_have_content.Goals as goal

pub returns : goal.returns
returns c = content_law
