use Rattle.mon_words.proofs.Growing.{grows_refl, grows_trans, grows_load, grows_global, grows_callbacks, grows_retire, grows_disable}
use Rattle.mon_words.proofs.laws.stays_add_up.Goals as goal

pub returns : goal.returns
returns c = record { none = grows_refl; both = grows_trans; load = grows_load; global = grows_global; callbacks = grows_callbacks; retire = grows_retire; disable = grows_disable }
