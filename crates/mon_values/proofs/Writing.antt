-- Parts that are written in turn, and where writing stops.
use Rattle.std.proofs.Common.{◌≡◌, ℕ, ◌+◌, ◌<◌, ◌≤◌, List, [], ◌∷◌, ◌++◌, length, drop, map, get_or, add-one, drop-cons, refl, ap, sym, ◌∙◌, Result, Ok, Err, OnOk}
use Rattle.std.specs.Prelude.{codes}
use Rattle.std.specs.List.{flat_map}
use Rattle.std.proofs.lemmas.List.{drop_all}
use Rattle.mon_values.specs.declared.limited.LimitedBuffer.{LimitedBuffer}
use Rattle.mon_values.specs.declared.value.Value.{Value}
use Rattle.mon_values.specs.Limits.{written}
use Rattle.mon_values.specs.Printing.{Printed, joined}
use Rattle.mon_values.proofs.Limits.{written_then, written_none, written_full}
use Rattle.mon_values.proofs.Tables.{joined_more, joined_last}

-- one part and then another
pub both : (old one two : LimitedBuffer) (a b : List ℕ) → one ≡ written old a → two ≡ written one b → two ≡ written old (a ++ b)
both old one two a b e f = f ∙ ap (λ w. written w b) e ∙ written_then old a b

pub both_or : {T E : Type 0} (r : Result T E) (old one two : LimitedBuffer) (a b : List ℕ) → one ≡ written old a → OnOk r (two ≡ written one b) → OnOk r (two ≡ written old (a ++ b))
both_or (Ok x) old one two a b e f = both old one two a b e f
both_or (Err x) old one two a b e f = tt

-- what is left to write of a whole, where nothing more is
pub ended : (buffer old : LimitedBuffer) (rest whole : List ℕ) → written buffer rest ≡ written old whole → rest ≡ [] → buffer ≡ written old whole
ended buffer old rest whole inv e = sym (ap (written buffer) e ∙ written_none buffer) ∙ inv

-- where the buffer is full, whatever were to follow
pub stopped : (buffer old : LimitedBuffer) (rest whole : List ℕ) → written buffer rest ≡ written old whole → buffer.room ≡ 0 → buffer ≡ written old whole
stopped buffer old rest whole inv e = sym (written_full buffer rest e) ∙ inv

pub stopped_before : (buffer old : LimitedBuffer) (rest whole more : List ℕ) → written buffer rest ≡ written old whole → buffer.room ≡ 0 → buffer ≡ written old (whole ++ more)
stopped_before buffer old rest whole more inv e =
    sym (written_full buffer more e) ∙ ap (λ w. written w more) (stopped buffer old rest whole inv e) ∙ written_then old whole more

-- a part of what is left
turn : (buffer old new : LimitedBuffer) (part rest whole : List ℕ) → written buffer (part ++ rest) ≡ written old whole → new ≡ written buffer part → written new rest ≡ written old whole
turn buffer old new part rest whole inv e = ap (λ w. written w rest) e ∙ written_then buffer part rest ∙ inv

-- a turn of the loop over characters
pub chars_more : (f : ℕ → List ℕ) (chars : List ℕ) (i x : ℕ) (buffer old new : LimitedBuffer) (whole : List ℕ) → written buffer (flat_map f (drop i chars)) ≡ written old whole → i < length chars → x ≡ get_or chars i x
    → new ≡ written buffer (f x) → written new (flat_map f (drop (i + 1) chars)) ≡ written old whole
chars_more f chars i x buffer old new whole inv h g e =
    let split : flat_map f (drop i chars) ≡ f x ++ flat_map f (drop (i + 1) chars) = rw (add-one, drop-cons chars i x, ← g) refl in
    turn buffer old new (f x) (flat_map f (drop (i + 1) chars)) whole (ap (written buffer) (sym split) ∙ inv) e

-- a turn of the loop over the items of a tuple
pub items_more : (f : Value → Printed) (items : List Value) (i : ℕ) (x : Value) (buffer old now later : LimitedBuffer) (whole : List ℕ) → written buffer (joined (map f (drop i items))) ≡ written old whole → i + 1 < length items → x ≡ get_or items i x
    → now ≡ written buffer (f x).repr → later ≡ written now (codes ", ") → written later (joined (map f (drop (i + 1) items))) ≡ written old whole
items_more f items i x buffer old now later whole inv h e p q =
    turn buffer old later ((f x).repr ++ codes ", ") (joined (map f (drop (i + 1) items))) whole (ap (written buffer) (sym (joined_more f items i x h e)) ∙ inv) (both buffer now later (f x).repr (codes ", ") p q)

pub items_last : (f : Value → Printed) (items : List Value) (i : ℕ) (x : Value) (buffer old now : LimitedBuffer) (whole : List ℕ) → written buffer (joined (map f (drop i items))) ≡ written old whole → i < length items → length items ≤ i + 1 → x ≡ get_or items i x
    → now ≡ written buffer (f x).repr → written now (joined (map f (drop (i + 1) items))) ≡ written old whole
items_last f items i x buffer old now whole inv h k e p =
    turn buffer old now (f x).repr (joined (map f (drop (i + 1) items))) whole (ap (written buffer) (sym (joined_last f items i x h k e)) ∙ inv) p
