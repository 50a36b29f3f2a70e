use Rattle.mon_forms.proofs.Calling.{script_pushed}
use Rattle.mon_forms.proofs.draft.Draft.push_to_script.Goals as goal

pub returns-in_ok-push-2 : goal.returns-in_ok-push-2
returns-in_ok-push-2 c =
    script_pushed c.args.self.now c.args.call c.pop.new.self c.push-in-Some.new.self c.in-Some.script c.push.new.self c.in-Some.ensures c.in_ok-push.ensures.ok c.in_ok-push-2.ensures.ok
