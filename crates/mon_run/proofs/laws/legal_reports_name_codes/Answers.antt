use Rattle.mon_run.proofs.Rising.{legal_names_codes}
use Rattle.mon_run.proofs.laws.legal_reports_name_codes.Goals as goal

pub returns : goal.returns
returns c = legal_names_codes
