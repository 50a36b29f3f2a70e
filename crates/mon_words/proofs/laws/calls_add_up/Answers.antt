use Rattle.mon_words.proofs.Continuing.{continues_refl, continues_trans, continues_stay, continues_poll, continues_enter, continues_leave}
use Rattle.mon_words.proofs.laws.calls_add_up.Goals as goal

pub returns : goal.returns
returns c = record { none = continues_refl; both = continues_trans; stay = continues_stay; poll = continues_poll; enter = continues_enter; leave = continues_leave }
