use Rattle.std.proofs.Common.{◌<◌, ◌∙◌, ℕ, List, [], map, get_or, ap, sym, subst, arith}
use Rattle.mon_code.specs.Programs.{Parts}
use Rattle.mon_code.specs.Sites.{sites_of}
use Rattle.mon_words.specs.History.{base_in}
use Rattle.mon_words.specs.Standing.{board_of}
use Rattle.mon_words.specs.Words.{first_words}
use Rattle.mon_words.proofs.Firsts.{first-bases}
use Rattle.mon_gate.specs.declared.view.View.{View}
use Rattle.mon_history.specs.Stands.{StandsFor}
use Rattle.mon_instrument.proofs.Firsts.{first_stands}
use Rattle.mon_run.proofs.Lending.{first_governs}
use Rattle.mon_run.proofs.Starting.{proper_plan}
use Rattle.mon_run.proofs.threads_run.threads_on.Goals as goal

pub run_from-requires-clause-bases : goal.run_from-requires-clause-bases
run_from-requires-clause-bases g c κs ok =
    let bytes : (l : ℕ) → get_or c.args.bases.now l 0 < 256 = λ l. omega (arith, c.type_inv.bases l) in
    ap (λ (z : View). map base_in z.first.cells) c.requires.first ∙ (first-bases c.args.bases.now bytes ∙ c.requires.bases)

pub run_from-requires-clause-governs : goal.run_from-requires-clause-governs
run_from-requires-clause-governs g c κs ok =
    let p : Parts = c.args.program.now in let same = c.requires.bases in
    let bytes : (l : ℕ) → get_or p.bases l 0 < 256 = λ l. subst (λ (b : List ℕ). get_or b l 0 < 256) same (omega (arith, c.type_inv.bases l)) in
    let stands = subst (λ (b : List ℕ). StandsFor (sites_of p) [] (board_of (first_words b)) []) (sym same) (first_stands p c.locations.ensures.checked bytes) in
    let room = c.in-Ok.ensures in
    first_governs p c.in-Ok.room.control c.args.pass.chair.me.0 _ _ c.requires.first stands room.journal room.threads room.codes

pub run_from-requires-clause-proper : goal.run_from-requires-clause-proper
run_from-requires-clause-proper g c κs ok = proper_plan c.args.program.now c.args.plan.now.workload c.locations.ensures.checked c.requires.fits.workload
