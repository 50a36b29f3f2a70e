-- The names of a set's events, joined one by one.
use Rattle.std.proofs.Common.{◌≡◌, ℕ, ◌+◌, ◌<◌, Bool, true, false, ◌&&◌, not, List, [], ◌∷◌, ◌++◌, length, drop, map, get_or, refl, sym, ap, ◌∙◌, append_assoc, cond, codes}
use Rattle.std.specs.List.{filter}
use Rattle.std.proofs.lemmas.List.{drop_more}
use Rattle.mon_events.specs.Events.{name_of}
use Rattle.mon_events.specs.Sets.{has}
use Rattle.mon_events.specs.declared.event.Event.{Event}
use Rattle.mon_forms.specs.Reports.{joined, barred}

-- the names of those of some events that a set has
abbrev pub names_of : ℕ → List Event → List (List ℕ)
names_of set es = map name_of (filter (has set) es)

-- what is written of texts, of which the first is the first of all or is not
abbrev pub joined_behind : Bool → List (List ℕ) → List ℕ
joined_behind true xs = joined xs
joined_behind false xs = barred xs

-- a text that may be there, behind others or not
abbrev pub piece : Bool → Bool → List ℕ → List ℕ
piece is_first has x = cond has (cond is_first [] (codes "|") ++ x) []

abbrev pub if_there : Bool → List ℕ → List (List ℕ) → List (List ℕ)
if_there true x xs = x ∷ xs
if_there false x xs = xs

more : (is_first has : Bool) (x : List ℕ) (xs : List (List ℕ)) → joined_behind is_first (if_there has x xs) ≡ piece is_first has x ++ joined_behind (is_first && not has) xs
more true true x xs = refl
more true false x xs = refl
more false true x xs = refl
more false false x xs = refl

names_more : (set : ℕ) (e : Event) (es : List Event) (b : Bool) → has set e ≡ b → names_of set (e ∷ es) ≡ if_there b (name_of e) (names_of set es)
names_more set e es true h = rw h refl
names_more set e es false h = rw h refl

-- an event less is left
pub one_member : (set : ℕ) (es : List Event) (i : ℕ) (e : Event) (is_first next : Bool) (before now : List ℕ) → i < length es → e ≡ get_or es i e → next ≡ (is_first && not (has set e)) → now ≡ before ++ cond (has set e) (cond is_first [] (codes "|") ++ name_of e) []
    → now ++ joined_behind next (names_of set (drop (i + 1) es)) ≡ before ++ joined_behind is_first (names_of set (drop i es))
one_member set es i e is_first next before now h is n w =
    let rest : List (List ℕ) = names_of set (drop (i + 1) es) in
    let b : Bool = has set e in
    let left : names_of set (drop i es) ≡ if_there b (name_of e) rest = ap (names_of set) (drop_more es i e h ∙ ap (λ (y : Event). y ∷ drop (i + 1) es) (sym is)) ∙ names_more set e (drop (i + 1) es) b refl in
    ap (λ (l : List ℕ). l ++ joined_behind next rest) w
    ∙ append_assoc before (piece is_first b (name_of e)) (joined_behind next rest)
    ∙ ap (λ (l : List ℕ). before ++ l) (ap (λ (f : Bool). piece is_first b (name_of e) ++ joined_behind f rest) n ∙ sym (more is_first b (name_of e) rest) ∙ ap (joined_behind is_first) (sym left))
