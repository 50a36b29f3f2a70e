-- `SharedItems` as a type that may hold the type that holds it.
use mathlib.Core.Path.{◌≡◌, refl, sym}
use mathlib.Core.List.{List, []}
use mathlib.Core.Logic.{◌⊎◌, inl, inr}
use mathlib.Core.Former.{Former, this, const, pair, or, list, via, children}
use base.Stored.{code_map}
use denote.RattleType.{RattleType}
use denote.RawPtr.{Ptr}
use denote.HoleLaws.{Alike}
use denote.HolePlaces.{Recodes, struct_places, enum_places, eachs, laid}
use denote.Hole.Carrier.{listed, list-listed}
use denote.Hole.Fix.{over}
use denote.Param.Weighed.{Weighed, w_list}
use denote.Model.Placed.{view_places, held}
use Rattle.std.specs.declared.option.Option.{Option}
use Rattle.std.specs.declared.option.Option.TheVariants.{None, Some}
use Rattle.std.specs.contracts.option.Option as option
use Rattle.std.specs.formers.vec.Vec as vec
use Rattle.std.specs.declared.vec.Vec.{Vec}
use Rattle.std.specs.contracts.vec.Vec as vec_row
use Rattle.std.specs.declared.sync.Arc.{Arc}
use Rattle.std.specs.declared.alloc.Global.{Global}
use Rattle.std.specs.contracts.alloc.Global as heap
use Rattle.std.specs.contracts.impls.GlobalAllocator.TheImpl.{ghosts}
use Rattle.mon_shared.specs.Sharing.{items_in}
use Rattle.mon_shared.specs.formers.shared.SharedBox.{arc_of, arc_places}
use Rattle.mon_shared.specs.declared.shared.SharedItems.TheInside.{Inside}
use Rattle.mon_shared.specs.declared.shared.SharedItems.TheView.{view, invariant}
use Rattle.mon_shared.specs.contracts.shared.SharedItems as C
use Rattle.mon_shared.specs.contracts.shared.SharedItems.TheInside as I

abbrev pub the_former : Former {0} → Former {0}
the_former g = list g

abbrev pub the_weighed : {g : Former {0}} → Weighed g → Weighed (the_former g)
the_weighed w = w_list w

pub the_empty : List ⊥
the_empty = []

abbrev pub the_items : (X : Type 0) → List X → List X
the_items X d = d

pub the_items_listed : (X : Type 0) (d : List X) → listed _ (children (the_former this) X d) ≡ the_items X d
the_items_listed X d = list-listed X d

abbrev Stored : Type 0 → Type 0
Stored X = Arc (Vec X Global) Global

module _ {X : Type 0} where
  abbrev split : Option (Stored X) → Unit {0} ⊎ (Ptr × Vec X Global)
  split None = inl tt
  split (Some a) = inr (a.ptr, a.value)

  abbrev join : Unit {0} ⊎ (Ptr × Vec X Global) → Option (Stored X)
  join (inl u) = None
  join (inr v) = Some (record { ptr = v.0; value = v.1 })

  join-split : (o : Option (Stored X)) → join (split o) ≡ o
  join-split None = refl
  join-split (Some a) = refl

  split-join : (o : Unit {0} ⊎ (Ptr × Vec X Global)) → split (join o) ≡ o
  split-join (inl u) = refl
  split-join (inr v) = refl

abbrev slot : Former {0}
slot = via (or (const (Unit {0})) (pair (const Ptr) (vec.the_former this Global))) (λ X. Option (Stored X)) (λ X. split) (λ X. join) (λ X. join-split) (λ X. split-join)

abbrev fields : Former {0}
fields = via slot Inside (λ X a. a.items) (λ X v. record { items = v }) (λ X a. refl) (λ X v. refl)

module _ (X : Type 0) where
  keeps : (o : Option (Stored X)) → held (list this) X (items_in o) ≡ held fields X (record { items = o })
  keeps None = refl
  keeps (Some a) = refl

  module _ (Y : Type 0) (h : X → Y) where
    abbrev over_stored : Stored X → Stored Y
    over_stored a = record { ptr = a.ptr; value = vec.mapped h a.value }

    abbrev over_slot : Option (Stored X) → Option (Stored Y)
    over_slot None = None
    over_slot (Some a) = Some (over_stored a)

    mapped : (o : Option (Stored X)) → slot.map X Y h o ≡ over_slot o
    mapped None = refl
    mapped (Some a) = refl

    natural : (o : Option (Stored X)) → items_in (slot.map X Y h o) ≡ (list this).map X Y h (items_in o)
    natural None = refl
    natural (Some a) = refl

abbrev vec_of : RattleType → RattleType
vec_of R = vec_row.the_row R heap.the_row ghosts

module _ (R S : RattleType) (h : R.Denot → S.Denot) where
  variant : (o : Option (Stored R.Denot))
      → (option.enum (arc_of (vec_of S))).as_values (over_slot R.Denot S.Denot h o)
      ≡ eachs (option.enum (arc_of (vec_of R))).parts (option.enum (arc_of (vec_of S))).parts (tt, ((over_stored R.Denot S.Denot h, tt), tt)) ((option.enum (arc_of (vec_of R))).as_values o)
  variant None = refl
  variant (Some a) = refl

  pub the_places : Alike R S h → Alike (C.the_row R) (C.the_row S) ((the_former this).map R.Denot S.Denot h)
  the_places a =
      let stored = arc_places (vec_of R) (vec_of S) (vec.mapped h) (vec.the_places heap.the_row ghosts R S h a) in
      let top = enum_places (option.enum (arc_of (vec_of R))) (option.enum (arc_of (vec_of S))) (tt, ((over_stored R.Denot S.Denot h, tt), tt)) (over_slot R.Denot S.Denot h) variant refl (tt, ((laid _ _ _ stored, tt), tt)) in
      view_places fields (list this) view (λ X Y k u. natural X Y k u.items) (λ X u. keeps X u.items) R.Denot S.Denot h (C.the_row R).coded (C.the_row S).coded
      (invariant R.Denot) (invariant S.Denot) (λ u p q. refl) (λ u p q. refl) (λ u e. tt) (λ u e. tt)
      (over (I.the_row R)) (over (I.the_row S))
      (struct_places (I.the_type R) (I.the_type S) (over_slot R.Denot S.Denot h, tt) _ (λ d i. (mapped R.Denot S.Denot h d.items i, tt)) refl (laid _ _ _ top, tt))

  pub the_codes_placed : Recodes R S h → Recodes (C.the_row R) (C.the_row S) ((the_former this).map R.Denot S.Denot h)
  the_codes_placed e d = sym (code_map R.coded.code S.coded.code h (λ x. sym (e x)) d)
