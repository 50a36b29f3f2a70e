use Rattle.mon_hear.proofs.Bits.{no_bit, asking_more}
use Rattle.mon_hear.proofs.words.asking_tools.Goals as goal

pub loop-event-init : goal.loop-event-init
loop-event-init c = λ t l. no_bit t

pub loop-event-preserved : goal.loop-event-preserved
loop-event-preserved c = λ t l. asking_more c.args.word c.args.global t c.loop-event.tools c.enabled_tools-tools.result c.loop-event.event-index c.args.events.now c.event-item.result c.loop-event-test.true c.event-item.is
    (c.loop-event.invariant t l) (c.enabled_tools-tools.ensures t l)
