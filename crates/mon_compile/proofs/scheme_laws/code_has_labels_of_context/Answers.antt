use Rattle.mon_compile.proofs.InnerContexts.{all_have_labels}
use Rattle.mon_compile.proofs.scheme_laws.code_has_labels_of_context.Goals as goal

pub returns : goal.returns
returns c = all_have_labels
