use Rattle.std.proofs.Common.{rules}
use Rattle.mon_gate.proofs.Claims.{draws}
use Rattle.mon_gate.proofs.pass.claim.Goals as goal

pub fetch_add-found-requires : goal.fetch_add-found-requires
fetch_add-found-requires c = (search rules, search rules, draws _ _ _ _ c.requires.plain c.requires.ticket)
