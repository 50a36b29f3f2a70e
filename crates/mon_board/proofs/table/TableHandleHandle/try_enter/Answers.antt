use Rattle.std.proofs.Common.{ap}
use Rattle.mon_gate.specs.declared.view.View.{View}
use Rattle.mon_board.proofs.Seats.{enters, refuses}
use Rattle.mon_board.proofs.table.TableHandleHandle.try_enter.Goals as goal

pub returns-clause-kept : goal.returns-clause-kept
returns-clause-kept c = let e = c.try_enter.ensures.view in (ap (λ (v : View). v.threads) e, ap (λ (v : View). v.tickets) e, ap (λ (v : View). v.ended) e)

pub returns-clause-told : goal.returns-clause-told
returns-clause-told c = enters c.args.self.now.seat.chair.me.0 c.try_enter.new.self.chair.me.0 c.try_enter.result c.try_enter.ensures.seen c.try_enter.ensures.view c.try_enter.ensures.answer

pub returns-clause-found : goal.returns-clause-found
returns-clause-found c = refuses c.try_enter.new.self.chair.me.0 c.try_enter.result c.try_enter.ensures.answer
