-- Names with commas between them: targets and parameters are read, and nothing else is.
use Rattle.std.proofs.Common.{◌≡◌, ℕ, List, [], ◌∷◌, ◌++◌, length, refl, ap, ◌∙◌, arith, length-append, subst}
use Rattle.std.specs.Prelude.{Some, None, true, false}
use Rattle.mon_lexer.specs.declared.token.Token.{Token}
use Rattle.mon_lexer.specs.declared.token.Kind.{Kind}
use Rattle.mon_lexer.specs.declared.token.Kind.TheVariants as kind
use Rattle.mon_lexer.specs.declared.token.Operator.TheVariants as operator
use Rattle.mon_parser.specs.declared.cursor.Sign.TheVariants as sign
use Rattle.mon_trees.specs.declared.tree.Targets.{Targets}
use Rattle.mon_trees.specs.declared.tree.Targets.TheVariants as targets
use Rattle.mon_parser.specs.Tokens.{mark, symbol, name}
use Rattle.mon_parser.specs.Reader.{Answer, Reader, then_read, pick, next_at, mark_at, name_at, is_comma, is_comma_kind}
use Rattle.mon_parser.specs.Statements.{starts_name, more_names, read_targets, read_parameters}
use Rattle.mon_parser.specs.Grammar.{IsNames, names_one, names_more, IsTargets, targets_one, targets_tuple, targets_comma, IsParams, params_none, params_some, params_comma}
use Rattle.mon_parser.proofs.Left.{some_pair, then_was}
use Rattle.mon_parser.proofs.Compared.{took}
use Rattle.mon_parser.proofs.Items.{Tail, stop, trailing, next, NoComma, Ends, ReadsItems, tail_reads, tail_sound, comma_sound, DerivedAs}
use Rattle.mon_parser.proofs.Sounds.{Picked, picked_true, picked_false, picked, comma_first, name_is}

pub data IsName : List Token → List ℕ → Type 0 where
  is_name : {n : List ℕ} (l : ℕ) → IsName (name n l ∷ []) n

-- nothing is asked of what follows a name
abbrev anything : List Token → Type 0
anything rest = Unit {0}

reads_names : ReadsItems IsName starts_name anything (next_at name_at)
unfolding next_at starts_name
reads_names = record { reads = name_reads; item_begins = name_begins; comma = λ l ts. tt }
  where
    name_reads : (ts : List Token) (n : List ℕ) → IsName ts n → (rest : List Token) → Unit {0} → next_at name_at (ts ++ rest) ≡ Some (n, rest)
    name_reads ts n (is_name l) rest h = refl

    name_begins : (ts : List Token) (n : List ℕ) → IsName ts n → (rest : List Token) → starts_name (ts ++ rest) ≡ true
    name_begins ts n (is_name l) rest = refl

names_tail : {ts : List Token} {ns : List (List ℕ)} → IsNames ts ns → (l : ℕ) → Tail IsName (symbol operator.Comma l ∷ ts) ns
names_tail (names_one k) l = next l (is_name k) stop
names_tail (names_more k m d) l = next l (is_name k) (names_tail d m)

names_tail_comma : {ts : List Token} {ns : List (List ℕ)} → IsNames ts ns → (l j : ℕ) → Tail IsName (symbol operator.Comma l ∷ (ts ++ symbol operator.Comma j ∷ [])) ns
names_tail_comma (names_one k) l j = next l (is_name k) (trailing j)
names_tail_comma (names_more k m d) l j = next l (is_name k) (names_tail_comma d m j)

pub names_come : (rest : List Token) → Ends starts_name rest → {us : List Token} {ns : List (List ℕ)} → Tail IsName us ns → more_names (us ++ rest) ≡ Some (ns, rest)
names_come rest e {us} d = tail_reads IsName starts_name anything (next_at name_at) reads_names rest e tt d (length (us ++ rest)) (omega (arith, length-append us rest))

none_comma_kind : (k : Kind) → mark_at sign.Comma k ≡ None → is_comma_kind k ≡ false
none_comma_kind (kind.Operator operator.Comma) e = cc
none_comma_kind _ e = refl

pub no_comma : (rest : List Token) → NoComma rest → is_comma rest ≡ false
unfolding is_comma
no_comma [] h = refl
no_comma (t ∷ ts) h = none_comma_kind t.kind h

with_comma : (n : List ℕ) (l m : ℕ) (ts : List Token) (ns : List (List ℕ)) (rest : List Token) → Ends starts_name rest → Tail IsName (symbol operator.Comma m ∷ ts) ns → read_targets (name n l ∷ (symbol operator.Comma m ∷ (ts ++ rest))) ≡ Some (targets.Tuple (n ∷ ns), rest)
unfolding then_read next_at pick is_comma
with_comma n l m ts ns rest e d = ap (λ (g : Answer (List (List ℕ))). then_read g (λ more left. Some (targets.Tuple (n ∷ more), left))) (names_come rest e d)

pub targets_read : {ts : List Token} {to : Targets} → IsTargets ts to → (rest : List Token) → Ends starts_name rest → read_targets (ts ++ rest) ≡ Some (to, rest)
unfolding then_read next_at pick
targets_read (targets_one {n = n} l) rest e = rw (no_comma rest e.comma) refl
targets_read (targets_tuple {ts = ts} {n = n} {ns = ns} l m d) rest e = with_comma n l m ts ns rest e (names_tail d m)
targets_read (targets_comma m (names_one {n = n} l)) rest e = with_comma n l m [] [] rest e (trailing m)
targets_read (targets_comma m (names_more {ts = ts} {n = n} {ns = ns} l k d)) rest e = with_comma n l k (ts ++ symbol operator.Comma m ∷ []) ns rest e (names_tail_comma d k m)

pub parameters_read : {ts : List Token} {ns : List (List ℕ)} → IsParams ts ns → (rest : List Token) → Ends starts_name rest → read_parameters (ts ++ rest) ≡ Some (ns, rest)
unfolding then_read next_at pick starts_name
parameters_read params_none rest e = ap (λ c. pick c (then_read (next_at name_at rest) (λ n left. then_read (more_names left) (λ ns end. Some (n ∷ ns, end)))) (Some ([], rest))) e.none_begins
parameters_read (params_some (names_one {n = n} l)) rest e = ap (λ (g : Answer (List (List ℕ))). then_read g (λ ns end. Some (n ∷ ns, end))) (names_come rest e stop)
parameters_read (params_some (names_more {n = n} l m d)) rest e = ap (λ (g : Answer (List (List ℕ))). then_read g (λ ns end. Some (n ∷ ns, end))) (names_come rest e (names_tail d m))
parameters_read (params_comma m (names_one {n = n} l)) rest e = ap (λ (g : Answer (List (List ℕ))). then_read g (λ ns end. Some (n ∷ ns, end))) (names_come rest e (trailing m))
parameters_read (params_comma m (names_more {n = n} l k d)) rest e = ap (λ (g : Answer (List (List ℕ))). then_read g (λ ns end. Some (n ∷ ns, end))) (names_come rest e (names_tail_comma d k m))

-- what was read are names, maybe with a comma at their end
name_sound : (ts : List Token) (n : List ℕ) (rest : List Token) → next_at name_at ts ≡ Some (n, rest) → DerivedAs IsName ts n rest
name_sound ts n rest e = let k = took name_at ts n rest e in (name n k.line ∷ [], k.front ∙ ap (λ j. mark j k.line ∷ rest) (name_is k.kind n k.says), is_name k.line)

pub data Named : List Token → List (List ℕ) → Type 0 where
  named : {ts : List Token} {ns : List (List ℕ)} → IsNames ts ns → Named ts ns
  named_comma : {ts : List Token} {ns : List (List ℕ)} (l : ℕ) → IsNames ts ns → Named (ts ++ symbol operator.Comma l ∷ []) ns

named_more : {us : List Token} {n : List ℕ} {ns : List (List ℕ)} (l m : ℕ) → Named us ns → Named (name n l ∷ (symbol operator.Comma m ∷ us)) (n ∷ ns)
named_more l m (named d) = named (names_more l m d)
named_more l m (named_comma k d) = named_comma k (names_more l m d)

of_tail : {us : List Token} {ns : List (List ℕ)} → Tail IsName us ns → {n : List ℕ} (l : ℕ) → Named (name n l ∷ us) (n ∷ ns)
of_tail stop l = named (names_one l)
of_tail (trailing m) l = named_comma m (names_one l)
of_tail (next m (is_name k) d) l = named_more l m (of_tail d k)

params_of : {ts : List Token} {ns : List (List ℕ)} → Named ts ns → IsParams ts ns
params_of (named d) = params_some d
params_of (named_comma l d) = params_comma l d

targets_of : {n : List ℕ} {us : List Token} {ns : List (List ℕ)} (l : ℕ) → Tail IsName us ns → (us ≡ [] → ⊥) → IsTargets (name n l ∷ us) (targets.Tuple (n ∷ ns))
targets_of l stop h = absurd (h refl)
targets_of l (trailing m) h = targets_comma m (names_one l)
targets_of {n} l (next {us = us} {more = ns} m (is_name {n = q} k) d) h = by_list (name q k ∷ us) (q ∷ ns) (of_tail d k)
  where
    by_list : (us : List Token) (ns : List (List ℕ)) → Named us ns → IsTargets (name n l ∷ (symbol operator.Comma m ∷ us)) (targets.Tuple (n ∷ ns))
    by_list us ns (named x) = targets_tuple l m x
    by_list us ns (named_comma j x) = targets_comma j (names_more l m x)

pub targets_derive : (ts : List Token) (to : Targets) (rest : List Token) → read_targets ts ≡ Some (to, rest) → DerivedAs IsTargets ts to rest
targets_derive ts to rest e =
    let a = then_was (next_at name_at ts) behind (to, rest) e in
    let k = took name_at ts a.value a.rest a.first in
    by_comma a.value k.line a.rest (k.front ∙ ap (λ j. mark j k.line ∷ a.rest) (name_is k.kind a.value k.says)) (picked (is_comma a.rest) (more a.value a.rest) (Some (targets.Name a.value, a.rest)) (Some (to, rest)) a.last)
  where
    more : List ℕ → List Token → Answer Targets
    more n left = then_read (more_names left) (λ ns end. Some (targets.Tuple (n ∷ ns), end))

    behind : List ℕ → Reader Targets
    behind n left = pick (is_comma left) (more n left) (Some (targets.Name n, left))

    by_comma : (n : List ℕ) (l : ℕ) (left : List Token) → ts ≡ name n l ∷ left → Picked (is_comma left) (more n left) (Some (targets.Name n, left)) (Some (to, rest)) → DerivedAs IsTargets ts to rest
    by_comma n l left f (picked_false c h) = let p = some_pair (targets.Name n) to left rest h in (name n l ∷ [], f ∙ ap (λ r. name n l ∷ r) p.1, subst (λ z. IsTargets (name n l ∷ []) z) p.0 (targets_one l))
    by_comma n l left f (picked_true c h) =
        let g = comma_first left c in
        let i : more n (symbol operator.Comma g.0 ∷ g.1) ≡ Some (to, rest) = subst (λ z. more n z ≡ Some (to, rest)) g.2 h in
        let b = then_was (more_names (symbol operator.Comma g.0 ∷ g.1)) (λ ns end. Some (targets.Tuple (n ∷ ns), end)) (to, rest) i in
        let p = some_pair (targets.Tuple (n ∷ b.value)) to b.rest rest b.last in
        let y = comma_sound IsName starts_name (next_at name_at) name_sound (length g.1) g.0 g.1 b.value b.rest b.first in
        let us : List Token = symbol operator.Comma g.0 ∷ y.0 in
        (name n l ∷ us, f ∙ ap (λ r. name n l ∷ r) (g.2 ∙ ap (λ r. symbol operator.Comma g.0 ∷ r) (y.1 ∙ ap (λ r. y.0 ++ r) p.1)), subst (λ z. IsTargets (name n l ∷ us) z) p.0 (targets_of l y.2 (λ q. cc)))

pub parameters_derive : (ts : List Token) (names : List (List ℕ)) (rest : List Token) → read_parameters ts ≡ Some (names, rest) → DerivedAs IsParams ts names rest
parameters_derive ts names rest e = by_start (picked (starts_name ts) some (Some ([], ts)) (Some (names, rest)) e)
  where
    some : Answer (List (List ℕ))
    some = then_read (next_at name_at ts) (λ n left. then_read (more_names left) (λ ns end. Some (n ∷ ns, end)))

    by_start : Picked (starts_name ts) some (Some ([], ts)) (Some (names, rest)) → DerivedAs IsParams ts names rest
    by_start (picked_false c h) = let p = some_pair [] names ts rest h in ([], p.1, subst (λ z. IsParams [] z) p.0 params_none)
    by_start (picked_true c h) =
        let a = then_was (next_at name_at ts) (λ n left. then_read (more_names left) (λ ns end. Some (n ∷ ns, end))) (names, rest) h in
        let k = took name_at ts a.value a.rest a.first in
        let b = then_was (more_names a.rest) (λ ns end. Some (a.value ∷ ns, end)) (names, rest) a.last in
        let p = some_pair (a.value ∷ b.value) names b.rest rest b.last in
        let y = tail_sound IsName starts_name (next_at name_at) name_sound (length a.rest) a.rest b.value b.rest b.first in
        (name a.value k.line ∷ y.0, k.front ∙ ap (λ j. mark j k.line ∷ a.rest) (name_is k.kind a.value k.says) ∙ ap (λ r. name a.value k.line ∷ r) (y.1 ∙ ap (λ r. y.0 ++ r) p.1), subst (λ z. IsParams (name a.value k.line ∷ y.0) z) p.0 (params_of (of_tail y.2 k.line)))
