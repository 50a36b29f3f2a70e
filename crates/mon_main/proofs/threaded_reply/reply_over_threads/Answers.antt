use Rattle.std.proofs.Common.{rules}
use Rattle.mon_main.proofs.Generating.{gen_due, request_few}
use Rattle.mon_main.proofs.Told.{dis_due}
use Rattle.mon_main.specs.Commands.{texts}
use Rattle.mon_main.proofs.threaded_reply.reply_over_threads.Goals as goal

pub returns-in-Some-Dis-clause-due : goal.returns-in-Some-Dis-clause-due
returns-in-Some-Dis-clause-due g c = λ reading plan tells.
    dis_due _ _ (g.S.Store.holds c.args.store.now) reading plan _ (search rules) tells (c.dis.ensures.due reading plan)

pub generate-requires : goal.generate-requires
generate-requires g c = record { few = request_few (texts c.args.words.now) c.in-Some-Gen.number (search rules) }

pub returns-in-Some-Gen-clause-due : goal.returns-in-Some-Gen-clause-due
returns-in-Some-Gen-clause-due g c = λ reading plan tells. gen_due _ c.in-Some-Gen.number reading plan _ (search rules) c.generate.ensures.due
