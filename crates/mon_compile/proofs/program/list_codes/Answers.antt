use Rattle.mon_compile.proofs.Adding.{few_in_item, listing_stop}
use Rattle.mon_compile.proofs.program.list_codes.Goals as goal

pub add_item-requires : goal.add_item-requires
add_item-requires c = record { few_locations = c.loop-item.invariant.few; few_locals = few_in_item _ _ _ c.loop-item-test.true c.item-item.is c.requires }

pub returns-in_err-add_item : goal.returns-in_err-add_item
returns-in_err-add_item c = listing_stop _ _ _ _ _ _ _ c.from_residual.ensures.1 c.loop-item-test.true c.item-item.is c.loop-item.invariant.bases c.in_err-add_item.ensures
