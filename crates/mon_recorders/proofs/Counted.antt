-- Rows, one record or key after another.
use Rattle.std.proofs.Common.{◌≡◌, ℕ, ◌+◌, ◌==◌, Bool, true, false, ◌&&◌, cond, Some, List, [], ◌∷◌, ◌++◌, map, take, refl, sym, ap, ◌∙◌, append_assoc}
use Rattle.std.specs.List.{fold, filter, slice_get}
use Rattle.std.proofs.lemmas.List.{map-append, take_more}
use Rattle.std.proofs.lemmas.List.Elements.{filter-append}
use Rattle.std.proofs.lemmas.List.Sums.{fold-append}
use Rattle.std.proofs.lemmas.Option.{slice_get_within, get_or_from_slice_get}
use Rattle.mon_recorders.specs.declared.record.Record.{Record}
use Rattle.mon_recorders.specs.declared.rows.Counting.{Counting}
use Rattle.mon_recorders.specs.declared.rows.Row.{Row}
use Rattle.mon_recorders.specs.Rows.{counts, key_of, keys_in, count_one, cover}

abbrev joined : Row → Row → Row
joined last key = record { code = last.code; name = last.name; numbers = last.numbers ++ key.numbers }

cover_last : (rows : List Row) (last key : Row)
    → cover (rows ++ last ∷ []) key ≡ rows ++ cond (last.code == key.code) (joined last key ∷ []) (last ∷ key ∷ [])
cover_last [] last key = refl
cover_last (r ∷ []) last key = refl
cover_last (r ∷ s ∷ rows) last key = ap (λ z. r ∷ z) (cover_last (s ∷ rows) last key)

pub cover_same : (rows : List Row) (last key : Row) → (last.code == key.code) ≡ true → cover (rows ++ last ∷ []) key ≡ rows ++ joined last key ∷ []
cover_same rows last key h = cover_last rows last key ∙ ap (λ b. rows ++ cond b (joined last key ∷ []) (last ∷ key ∷ [])) h

pub cover_other : (rows : List Row) (last key : Row) → (last.code == key.code) ≡ false → cover (rows ++ last ∷ []) key ≡ (rows ++ last ∷ []) ++ key ∷ []
cover_other rows last key h =
    cover_last rows last key
    ∙ ap (λ b. rows ++ cond b (joined last key ∷ []) (last ∷ key ∷ [])) h
    ∙ sym (append_assoc rows (last ∷ []) (key ∷ []))

keys_in_append : (counting : Counting) (tool : ℕ) (rs ss : List Record) → keys_in counting tool (rs ++ ss) ≡ keys_in counting tool rs ++ keys_in counting tool ss
keys_in_append counting tool rs ss =
    let test : Record → Bool = λ r. r.tool == tool && counts counting r.event in
    ap (map (key_of counting)) (filter-append test rs ss) ∙ map-append (key_of counting) (filter test rs) (filter test ss)

-- the record at i, behind those before it
pub records_more : (counting : Counting) (tool : ℕ) (rs : List Record) (i : ℕ) (r : Record) (counted : List (Row × ℕ)) → slice_get rs i ≡ Some r
    → fold count_one counted (keys_in counting tool (take (i + 1) rs)) ≡ fold count_one (fold count_one counted (keys_in counting tool (take i rs))) (keys_in counting tool (r ∷ []))
records_more counting tool rs i r counted h =
    let within : take (i + 1) rs ≡ take i rs ++ r ∷ [] = take_more rs i r (slice_get_within rs i r h) ∙ ap (λ x. take i rs ++ x ∷ []) (get_or_from_slice_get rs i r r h) in
    ap (λ z. fold count_one counted (keys_in counting tool z)) within
    ∙ ap (fold count_one counted) (keys_in_append counting tool (take i rs) (r ∷ []))
    ∙ fold-append count_one counted (keys_in counting tool (take i rs)) (keys_in counting tool (r ∷ []))
