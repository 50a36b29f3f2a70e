-- Parts that are written one after another to a text of limited length.
use Rattle.std.proofs.Common.{◌≡◌, ℕ, suc, zero, ◌+◌, ◌-◌, ◌<◌, ◌≤◌, min, List, [], ◌∷◌, ◌++◌, length, take, refl, ap, sym, ◌∙◌, arith, append-nil, append_assoc, length-take, length-append, subst, get_or}
use Rattle.std.proofs.lemmas.List.{take_all, take_more}
use Rattle.mon_values.specs.declared.limited.LimitedBuffer.{LimitedBuffer}
use Rattle.mon_values.specs.Limits.{written}

take_parts : (n : ℕ) (a b : List ℕ) → take n (a ++ b) ≡ take n a ++ take (n - length a) b
take_parts zero a b = let e : 0 ≡ 0 - length a = omega arith in ap (λ k. take k b) e
take_parts (suc n) [] b = let e : suc n ≡ suc n - 0 = omega arith in ap (λ k. take k b) e
take_parts (suc n) (x ∷ a) b = let e : n - length a ≡ suc n - length (x ∷ a) = omega arith in ap (λ l. x ∷ l) (take_parts n a b) ∙ ap (λ k. (x ∷ take n a) ++ take k b) e

text_then : (n : ℕ) (old a b : List ℕ) → (old ++ take n a) ++ take (n - length a) b ≡ old ++ take n (a ++ b)
text_then n old a b = append_assoc old (take n a) (take (n - length a) b) ∙ ap (λ l. old ++ l) (sym (take_parts n a b))

room_then : (n : ℕ) (a b : List ℕ) → n - length a - length b ≡ n - length (a ++ b)
room_then n a b = omega (arith, length-append a b)

abbrev buffer_of : List ℕ → ℕ → LimitedBuffer
buffer_of text room = record { text = text; room = room }

same_parts : (old new : List ℕ) (n m : ℕ) → old ≡ new → n ≡ m → buffer_of old n ≡ buffer_of new m
same_parts old new n m e f = cc

none_taken : (n : ℕ) (a : List ℕ) → length a ≡ 0 → take n a ≡ a
none_taken n a e = take_all n a (omega arith)

pub written_then : (buffer : LimitedBuffer) (a b : List ℕ) → written (written buffer a) b ≡ written buffer (a ++ b)
unfolding written
written_then buffer a b = same_parts _ _ _ _ (text_then buffer.room buffer.text a b) (room_then buffer.room a b)

pub written_none : (buffer : LimitedBuffer) → written buffer [] ≡ buffer
unfolding written
written_none buffer = same_parts (buffer.text ++ take buffer.room []) buffer.text (buffer.room - 0) buffer.room (ap (λ l. buffer.text ++ l) (none_taken buffer.room [] refl) ∙ append-nil buffer.text) (omega arith)

pub written_full : (buffer : LimitedBuffer) (a : List ℕ) → buffer.room ≡ 0 → written buffer a ≡ buffer
unfolding written
written_full buffer a e = same_parts (buffer.text ++ take buffer.room a) buffer.text (buffer.room - length a) buffer.room (ap (λ n. buffer.text ++ take n a) e ∙ append-nil buffer.text) (omega arith)

pub front_written : (buffer : LimitedBuffer) (a : List ℕ) → buffer.text ≡ [] → (written buffer a).text ≡ take buffer.room a
unfolding written
front_written buffer a e = ap (λ l. l ++ take buffer.room a) e

whole : (n : ℕ) (a : List ℕ) → length (take n a) < n → take n a ≡ a
whole n a h = take_all n a (omega (arith, length-take n a))

pub all_written : (buffer : LimitedBuffer) (a : List ℕ) → buffer.text ≡ [] → length (written buffer a).text < buffer.room → (written buffer a).text ≡ a
unfolding written
all_written buffer a e h = front_written buffer a e ∙ whole buffer.room a (subst (λ (l : List ℕ). length l < buffer.room) (front_written buffer a e) h)

-- a turn of a loop: what was written of the first, and then the next
pub written_more : (buffer old new : LimitedBuffer) (chars : List ℕ) (i x : ℕ) → old ≡ written buffer (take i chars) → i < length chars → new ≡ written old (get_or chars i x ∷ []) → new ≡ written buffer (take (i + 1) chars)
written_more buffer old new chars i x e h f =
    f ∙ ap (λ b. written b (get_or chars i x ∷ [])) e ∙ written_then buffer (take i chars) (get_or chars i x ∷ []) ∙ ap (written buffer) (sym (take_more chars i x h))
