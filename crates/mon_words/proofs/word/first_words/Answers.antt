use Rattle.std.proofs.Common.{◌≡◌, ℕ, ◌≤◌, ◌++◌, List, map, take, length, replicate, sym, ap, ◌∙◌, subst, arith}
use Rattle.std.proofs.lemmas.List.{take_all}
use Rattle.mon_words.specs.History.{base_in}
use Rattle.mon_words.specs.Standing.{board_of, IsFirst}
use Rattle.mon_words.specs.Words.{before_locations, first_word, first_words}
use Rattle.mon_words.proofs.Firsts.{first-is, first-bases}
use Rattle.mon_words.proofs.word.first_words.Goals as goal

whole : (bases words : List ℕ) (n : ℕ) → length bases ≤ n → words ≡ replicate before_locations 0 ++ map first_word (take n bases) → first_words bases ≡ words
whole bases words n all is = sym (is ∙ ap (λ (l : List ℕ). replicate before_locations 0 ++ map first_word l) (take_all n bases all))

pub returns-clause-first : goal.returns-clause-first
returns-clause-first c = subst IsFirst (whole c.args.bases.now c.loop-base.words.items c.loop-base.base-index (omega (arith, c.loop-base-test.false)) c.loop-base.invariant) (first-is c.args.bases.now (λ n. omega (arith, c.type_inv.bases n)))

pub returns-clause-bases : goal.returns-clause-bases
returns-clause-bases c =
    subst (λ (l : List ℕ). map base_in (board_of l).cells ≡ c.args.bases.now) (whole c.args.bases.now c.loop-base.words.items c.loop-base.base-index (omega (arith, c.loop-base-test.false)) c.loop-base.invariant)
    (first-bases c.args.bases.now (λ n. omega (arith, c.type_inv.bases n)))
