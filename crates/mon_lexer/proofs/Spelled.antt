-- What a text spells case by case is what is computed of it, and the cases give it where there is no fault.
use Rattle.std.proofs.Common.{◌≡◌, ℕ, ◌≤◌, List, [], ◌∷◌, Bool, true, false, ◌==◌, refl, sym, ap, ◌∙◌, arith, subst, map, length, nat_lt, if◌then◌else◌, Some, None, chars, Result, Ok, Err, IfOk}
use Rattle.std.specs.Str.{is_utf8}
use Rattle.std.specs.Str.Lossy.{utf8_valid_len}
use Rattle.std.proofs.lemmas.Str.{IsUtf8-from_is_utf8}
use Rattle.mon_lexer.specs.Characters.{line_ends, begins_with, without_mark, source}
use Rattle.mon_lexer.specs.Pieces.{Placed, pieces}
use Rattle.mon_lexer.specs.Layout.{Sign, signs, lines as cut_lines, in_brackets, first_fault}
use Rattle.mon_lexer.specs.Lines.{HasLines, joined}
use Rattle.mon_lexer.specs.Lexing.{Spells, SpellsOnce}
use Rattle.mon_lexer.specs.Top.{last_line, signs_of, lexfault, spelled, Answers}
use Rattle.mon_lexer.specs.declared.token.Item.{Item}
use Rattle.mon_lexer.specs.declared.token.LexFault.{LexFault}
use Rattle.mon_lexer.specs.declared.token.LexFault.TheVariants.{NotUtf8, TooLong}
use Rattle.mon_lexer.proofs.LineCuts.{lines_once, lines_of_characters, joined_is}
use Rattle.mon_lexer.proofs.Cuts.{AllRight, cut_is, cut_so}
use Rattle.mon_lexer.proofs.Logicals.{showing, logical_shows, InLines, in_lines}
use Rattle.mon_lexer.proofs.Held.{Gives, begins_gives, AsItems, as_items}
use Rattle.mon_lexer.proofs.Wrongs.{all_right}

-- the mark may be skipped before or behind the line ends
feed_first : (cs : List ℕ) → begins_with 10 cs ≡ true → without_mark (line_ends cs) ≡ line_ends cs
unfolding line_ends
feed_first [] h = cc
feed_first (c ∷ cs) h =
    let same : 10 ≡ c = grind arith in
    let P : ℕ → Type 0 = λ z. without_mark (line_ends (z ∷ cs)) ≡ line_ends (z ∷ cs) in
    subst P same refl

mark_by : (c : ℕ) (cs : List ℕ) (mark returns follows : Bool) → (c == 0xFEFF) ≡ mark → (c == 13) ≡ returns → begins_with 10 cs ≡ follows
    → without_mark (if returns then (if follows then line_ends cs else 10 ∷ line_ends cs) else c ∷ line_ends cs) ≡ line_ends (if mark then cs else c ∷ cs)
unfolding line_ends
mark_by c cs true true follows m r f = absurd (grind (arith, m, r))
mark_by c cs true false follows m r f = rw m refl
mark_by c cs false false follows m r f = rw (m, r) refl
mark_by c cs false true false m r f = rw (r, f) refl
mark_by c cs false true true m r f = rw (r, f) (feed_first cs f)

mark_past : (cs : List ℕ) → without_mark (line_ends cs) ≡ line_ends (without_mark cs)
unfolding line_ends
mark_past [] = refl
mark_past (c ∷ cs) = mark_by c cs (c == 0xFEFF) (c == 13) (begins_with 10 cs) refl refl refl

text_is : (bytes : List ℕ) (ls : List (List ℕ)) → is_utf8 bytes ≡ true → HasLines bytes ls → without_mark (joined (map chars ls)) ≡ source bytes
text_is bytes ls u h =
    ap (λ z. without_mark z) (joined_is (chars bytes) (map chars ls) (lines_of_characters bytes ls (IsUtf8-from_is_utf8 bytes u) h).1) ∙ mark_past (chars bytes)

no_text_fault : (bytes : List ℕ) → length bytes ≤ 262144 → is_utf8 bytes ≡ true → lexfault bytes ≡ first_fault (signs_of (source bytes))
unfolding lexfault
no_text_fault bytes h u = let short : nat_lt 262144 (length bytes) ≡ false = grind arith in rw (short, u) refl

spells_gives : (bytes : List ℕ) (items : List Item) → Spells bytes items → Gives (signs_of (source bytes)) [] items
spells_gives bytes items s =
    let text : List ℕ = without_mark (joined (map chars s.lines)) in
    let same : text ≡ source bytes = text_is bytes s.lines s.utf8 s.in_lines in
    let shows : signs_of text ≡ showing (last_line text) false ([] ∷ []) s.logical =
    ap (λ z. signs (last_line text) false ([] ∷ []) (cut_lines (in_brackets 0 z))) (cut_is s.cut) ∙ logical_shows (last_line text) false ([] ∷ []) s.in_logical in
    let P : List Sign → Type 0 = λ z. Gives z [] items in
    let Q : List ℕ → Type 0 = λ z. Gives (signs_of z) [] items in
    subst Q same (subst P (sym shows) (begins_gives (last_line text) s.begins))

-- exactly what is computed, and no fault
pub spells_is : (bytes : List ℕ) (items : List Item) → Spells bytes items → (lexfault bytes ≡ None) × (items ≡ spelled bytes)
spells_is bytes items s =
    let g = spells_gives bytes items s in
    (no_text_fault bytes s.small s.utf8 ∙ g.no_fault, sym g.items)

pub spells_once : SpellsOnce
spells_once = (
  λ bytes some other s t. (spells_is bytes some s).1 ∙ sym (spells_is bytes other t).1,
  λ bytes items f s h. let none : None ≡ Some f = sym (spells_is bytes items s).0 ∙ h in cc,
)

small_by : (bytes : List ℕ) (b : Bool) → nat_lt 262144 (length bytes) ≡ b → lexfault bytes ≡ None → length bytes ≤ 262144
unfolding lexfault
small_by bytes true e h = let none : Some TooLong ≡ None = sym (rw e refl) ∙ h in cc
small_by bytes false e h = grind (arith, e)

utf8_by : (bytes : List ℕ) (b : Bool) → is_utf8 bytes ≡ b → length bytes ≤ 262144 → lexfault bytes ≡ None → is_utf8 bytes ≡ true
unfolding lexfault
utf8_by bytes true e l h = e
utf8_by bytes false e l h =
    let short : nat_lt 262144 (length bytes) ≡ false = grind arith in
    let none : Some (NotUtf8 (utf8_valid_len bytes)) ≡ None = sym (rw (short, e) refl) ∙ h in cc

-- where there is no fault, the cases give what is computed
pub spells_so : (bytes : List ℕ) → lexfault bytes ≡ None → Spells bytes (spelled bytes)
spells_so bytes h =
    let small : length bytes ≤ 262144 = small_by bytes (nat_lt 262144 (length bytes)) refl h in
    let utf8 : is_utf8 bytes ≡ true = utf8_by bytes (is_utf8 bytes) refl small h in
    let l = lines_once bytes in
    let text : List ℕ = without_mark (joined (map chars l.0)) in
    let same : text ≡ source bytes = text_is bytes l.0 utf8 l.1 in
    let fault : first_fault (signs_of text) ≡ None = ap (λ z. first_fault (signs_of z)) same ∙ sym (no_text_fault bytes small utf8) ∙ h in
    let ps : List Placed = pieces 1 0 text in
    let a : AllRight ps = all_right (last_line text) false ([] ∷ []) 0 ps fault in
    let i : InLines ps = in_lines ps a in
    let shown : signs_of text ≡ showing (last_line text) false ([] ∷ []) i.lines = logical_shows (last_line text) false ([] ∷ []) i.are in
    let n : AsItems (last_line text) i.lines = as_items (last_line text) i.lines (ap (λ z. first_fault z) (sym shown) ∙ fault) in
    let s : Spells bytes n.found = record { small = small; utf8 = utf8; lines = l.0; in_lines = l.1; pieces = ps; cut = cut_so 1 text a; logical = i.lines; in_logical = i.are; begins = n.are } in
    let P : List Item → Type 0 = λ z. Spells bytes z in
    subst P (spells_is bytes n.found s).1 s

pub items_spell : (r : Result (List Item) LexFault) (bytes : List ℕ) → Answers r bytes → IfOk r (λ found. Spells bytes found)
items_spell (Ok found) bytes a = let P : List Item → Type 0 = λ z. Spells bytes z in subst P (sym a.1) (spells_so bytes a.0)
items_spell (Err f) bytes a = tt
