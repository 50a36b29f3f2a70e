-- Single steps of the readers of constants, as the code takes them.
use Rattle.std.proofs.Common.{◌≡◌, ℕ, suc, ◌+◌, ◌-◌, ◌<◌, ◌≤◌, List, [], ◌∷◌, ◌++◌, length, refl, sym, ap, ◌∙◌, arith, to_z, of_z, w64, FitsSigned, ◌-ℤ◌, ◌≤ℤ◌}
use Rattle.std.specs.Prelude.{Some, None, true, false, ⊤, ℤ, pos, neg_ℤ}
use Rattle.std.proofs.lemmas.Int.{ints}
use Rattle.mon_lexer.specs.declared.token.Token.{Token}
use Rattle.mon_parser.specs.declared.cursor.Sign.TheVariants as sign
use Rattle.mon_trees.specs.declared.tree.Single.{Single}
use Rattle.mon_trees.specs.declared.tree.Constant.{Constant}
use Rattle.mon_trees.specs.declared.tree.Constant as const
use Rattle.mon_trees.specs.declared.tree.Constant.TheOpen.{Constant-F}
use Rattle.mon_trees.specs.declared.tree.Constant.TheFolds.{fold-roll-Constant}
use Rattle.mon_trees.specs.declared.tree.Constant.TheViews as consts
use Rattle.mon_parser.specs.Tokens.{single_of}
use Rattle.mon_parser.specs.Depth.{const_depth, const_depth_step}
use Rattle.mon_parser.specs.Reader.{Answer, Reader, then_read, choose, pick, next_at, mark_at, text_at, number_at, within, is_comma, more_items, more_texts}
use Rattle.mon_parser.specs.Statements.{starts_constant, read_constants, read_constant}
use Rattle.mon_parser.specs.ItemReadings.{at_constants, further_from}
use Rattle.mon_parser.proofs.Compared.{took}
use Rattle.mon_parser.proofs.Sounds.{number_is}
use Rattle.mon_parser.proofs.Steps.{items_last, items_none, items_ended, items_missing, items_more}

-- leaves
pub depth_integer : (z : ℤ) → const_depth (const.Integer z) ≡ 1
depth_integer z = ap const_depth (sym (consts.rolls-Integer z)) ∙ fold-roll-Constant ℕ const_depth_step (Constant-F.Integer z)

pub depth_text : (s : List ℕ) → const_depth (const.Text s) ≡ 1
depth_text s = ap const_depth (sym (consts.rolls-Text s)) ∙ fold-roll-Constant ℕ const_depth_step (Constant-F.Text s)

pub depth_single : (s : Single) → const_depth (const.Single s) ≡ 1
depth_single s = ap const_depth (sym (consts.rolls-Single s)) ∙ fold-roll-Constant ℕ const_depth_step (Constant-F.Single s)

pub depth_empty : const_depth const.Empty ≡ 1
depth_empty = ap const_depth (sym consts.rolls-Empty) ∙ fold-roll-Constant ℕ const_depth_step Constant-F.Empty

-- a constant by what comes next
abbrev pub from_group : ℕ → Reader Constant
from_group b ts = choose (next_at (mark_at sign.CloseRound) ts) (then_read (read_constants (read_constant b) ts) (λ c left. then_read (next_at (mark_at sign.CloseRound) left) (λ is end. Some (c, end)))) (λ is left. Some (const.Empty, left))

abbrev pub from_bracket : ℕ → Reader Constant
from_bracket b ts = then_read (next_at (mark_at sign.OpenRound) ts) (λ is rest. from_group b rest)

abbrev pub from_minus : ℕ → Reader Constant
from_minus b ts = choose (next_at (mark_at sign.Minus) ts) (from_bracket b ts) (λ is rest. then_read (next_at number_at rest) (λ z left. Some (const.Integer (neg_ℤ z), left)))

abbrev pub from_text : ℕ → Reader Constant
from_text b ts = choose (next_at text_at ts) (from_minus b ts) (λ s rest. then_read (more_texts s rest) (λ u left. Some (const.Text u, left)))

abbrev pub from_number : ℕ → Reader Constant
from_number b ts = choose (next_at number_at ts) (from_text b ts) (λ z rest. Some (const.Integer z, rest))

pub constant_zero : (b : ℕ) (ts : List Token) → b ≡ 0 → read_constant b ts ≡ None
unfolding read_constant
constant_zero b ts e = rw e refl

constant_step : (b : ℕ) (ts : List Token) → (b ≡ 0 → ⊥) → read_constant b ts ≡ choose (next_at single_of ts) (from_number (b - 1) ts) (λ s rest. Some (const.Single s, rest))
unfolding read_constant
constant_step b ts h = by_suc b (b - 1) (omega arith)
  where
    by_suc : (b j : ℕ) → b ≡ suc j → read_constant b ts ≡ choose (next_at single_of ts) (from_number j ts) (λ s rest. Some (const.Single s, rest))
    by_suc b j e = rw e refl

-- what was passed: no single, no number, no text, no sign
pub at_number : (b : ℕ) (ts a : List Token) → (b ≡ 0 → ⊥) → (next_at single_of ts ≡ None) × (a ≡ ts) → read_constant b ts ≡ from_number (b - 1) a
unfolding choose
at_number b ts a h n = constant_step b ts h ∙ rw n.0 (ap (λ z. from_number (b - 1) z) (sym n.1))

pub at_text : (b : ℕ) (ts a c : List Token) → read_constant b ts ≡ from_number (b - 1) a → (next_at number_at a ≡ None) × (c ≡ a) → read_constant b ts ≡ from_text (b - 1) c
unfolding choose
at_text b ts a c e n = e ∙ rw n.0 (ap (λ z. from_text (b - 1) z) (sym n.1))

pub at_minus : (b : ℕ) (ts a c : List Token) → read_constant b ts ≡ from_text (b - 1) a → (next_at text_at a ≡ None) × (c ≡ a) → read_constant b ts ≡ from_minus (b - 1) c
unfolding choose
at_minus b ts a c e n = e ∙ rw n.0 (ap (λ z. from_minus (b - 1) z) (sym n.1))

pub at_bracket : (b : ℕ) (ts a c : List Token) → read_constant b ts ≡ from_minus (b - 1) a → (next_at (mark_at sign.Minus) a ≡ None) × (c ≡ a) → read_constant b ts ≡ from_bracket (b - 1) c
unfolding choose
at_bracket b ts a c e n = e ∙ rw n.0 (ap (λ z. from_bracket (b - 1) z) (sym n.1))

pub at_group : (b : ℕ) (ts a rest : List Token) (x : ⊤) → read_constant b ts ≡ from_bracket (b - 1) a → next_at (mark_at sign.OpenRound) a ≡ Some (x, rest) → read_constant b ts ≡ from_group (b - 1) rest
unfolding then_read
at_group b ts a rest x e n = e ∙ rw n refl

pub no_bracket : (b : ℕ) (ts a : List Token) → read_constant b ts ≡ from_bracket (b - 1) a → next_at (mark_at sign.OpenRound) a ≡ None → read_constant b ts ≡ None
unfolding then_read
no_bracket b ts a e n = e ∙ rw n refl

-- what is read
pub reads_single : (b : ℕ) (ts rest : List Token) (s : Single) (t : Constant) → (b ≡ 0 → ⊥) → next_at single_of ts ≡ Some (s, rest) → t ≡ const.Single s → read_constant b ts ≡ Some (t, rest)
unfolding choose
reads_single b ts rest s t h n e = constant_step b ts h ∙ rw n (ap (λ z. Some (z, rest)) (sym e))

pub reads_number : (b : ℕ) (ts a rest : List Token) (z : ℤ) (t : Constant) → read_constant b ts ≡ from_number (b - 1) a → next_at number_at a ≡ Some (z, rest) → t ≡ const.Integer z → read_constant b ts ≡ Some (t, rest)
unfolding choose
reads_number b ts a rest z t r n e = r ∙ rw n (ap (λ y. Some (y, rest)) (sym e))

pub reads_text : (b : ℕ) (ts a rest left : List Token) (s u : List ℕ) (t : Constant) → read_constant b ts ≡ from_text (b - 1) a → next_at text_at a ≡ Some (s, rest) → more_texts s rest ≡ Some (u, left) → t ≡ const.Text u → read_constant b ts ≡ Some (t, left)
unfolding choose then_read
reads_text b ts a rest left s u t r n m e = r ∙ rw (n, m) (ap (λ y. Some (y, left)) (sym e))

pub reads_negative : (b : ℕ) (ts a rest left : List Token) (x : ⊤) (z : ℤ) (t : Constant) → read_constant b ts ≡ from_minus (b - 1) a → next_at (mark_at sign.Minus) a ≡ Some (x, rest) → next_at number_at rest ≡ Some (z, left) → t ≡ const.Integer (neg_ℤ z) → read_constant b ts ≡ Some (t, left)
unfolding choose then_read
reads_negative b ts a rest left x z t r n m e = r ∙ rw (n, m) (ap (λ y. Some (y, left)) (sym e))

pub no_number : (b : ℕ) (ts a rest : List Token) (x : ⊤) → read_constant b ts ≡ from_minus (b - 1) a → next_at (mark_at sign.Minus) a ≡ Some (x, rest) → next_at number_at rest ≡ None → read_constant b ts ≡ None
unfolding choose then_read
no_number b ts a rest x r n m = r ∙ rw (n, m) refl

pub reads_empty : (b : ℕ) (ts a rest : List Token) (x : ⊤) (t : Constant) → read_constant b ts ≡ from_group (b - 1) a → next_at (mark_at sign.CloseRound) a ≡ Some (x, rest) → t ≡ const.Empty → read_constant b ts ≡ Some (t, rest)
unfolding choose
reads_empty b ts a rest x t r n e = r ∙ rw n (ap (λ y. Some (y, rest)) (sym e))

abbrev pub closing : Constant → Reader Constant
closing c left = then_read (next_at (mark_at sign.CloseRound) left) (λ is end. Some (c, end))

pub at_inner : (b : ℕ) (ts a same : List Token) → read_constant b ts ≡ from_group (b - 1) a → (next_at (mark_at sign.CloseRound) a ≡ None) × (same ≡ a) → read_constant b ts ≡ then_read (at_constants (b - 1) same) closing
unfolding choose at_constants
at_inner b ts a same r n = r ∙ rw n.0 (ap (λ z. then_read (read_constants (read_constant (b - 1)) z) closing) (sym n.1))

pub no_inner : (b : ℕ) (ts same : List Token) → read_constant b ts ≡ then_read (at_constants (b - 1) same) closing → at_constants (b - 1) same ≡ None → read_constant b ts ≡ None
unfolding then_read
no_inner b ts same r n = r ∙ rw n refl

pub not_closed : (b : ℕ) (ts same left : List Token) (c : Constant) → read_constant b ts ≡ then_read (at_constants (b - 1) same) closing → at_constants (b - 1) same ≡ Some (c, left) → next_at (mark_at sign.CloseRound) left ≡ None → read_constant b ts ≡ None
unfolding then_read
not_closed b ts same left c r n m = r ∙ rw (n, m) refl

pub reads_group : (b : ℕ) (ts same left rest : List Token) (c : Constant) (x : ⊤) → read_constant b ts ≡ then_read (at_constants (b - 1) same) closing → at_constants (b - 1) same ≡ Some (c, left) → next_at (mark_at sign.CloseRound) left ≡ Some (x, rest) → read_constant b ts ≡ Some (c, rest)
unfolding then_read
reads_group b ts same left rest c x r n m = r ∙ rw (n, m) refl

-- numbers of tokens have no sign, so that each can be negated
pub not_negative : (ts rest : List Token) (z : ℤ) → next_at number_at ts ≡ Some (z, rest) → pos 0 ≤ℤ z
not_negative ts rest z e = let t = took number_at ts z rest e in let n = number_is t.kind z t.says in rw n.2 (omega (arith, ints))

pub negated_fits : (z : ℤ) → FitsSigned w64 z → pos 0 ≤ℤ z → FitsSigned w64 (pos 0 -ℤ to_z w64 (of_z w64 z))
negated_fits z f p = omega (arith, ints)

pub negated : (z : ℤ) → FitsSigned w64 z → pos 0 ≤ℤ z → to_z w64 (of_z w64 (pos 0 -ℤ to_z w64 (of_z w64 z))) ≡ neg_ℤ z
negated z f p = omega (arith, ints)

-- several constants
pub no_first : (b : ℕ) (ts : List Token) → read_constant b ts ≡ None → at_constants b ts ≡ None
unfolding at_constants then_read
no_first b ts e = rw e refl

pub reads_one : (b : ℕ) (ts rest : List Token) (c : Constant) → read_constant b ts ≡ Some (c, rest) → is_comma rest ≡ false → at_constants b ts ≡ Some (c, rest)
unfolding at_constants then_read pick
reads_one b ts rest c e n = rw (e, n) refl

pub at_further : (b : ℕ) (ts rest : List Token) (c : Constant) (parts : List Constant) → read_constant b ts ≡ Some (c, rest) → is_comma rest ≡ true → parts ≡ c ∷ [] → at_constants b ts ≡ then_read (further_from b parts (length rest) rest) (λ cs left. within const_depth (consts.Tuple cs) left)
unfolding at_constants further_from then_read pick
at_further b ts rest c parts e n p = rw (e, n, p) (regrouped (more_items starts_constant (read_constant b) (length rest) rest))
  where
    regrouped : (read : Answer (List Constant)) → then_read read (λ cs left. within const_depth (consts.Tuple (c ∷ cs)) left) ≡ then_read (then_read read (λ more left. Some ((c ∷ []) ++ more, left))) (λ cs left. within const_depth (consts.Tuple cs) left)
    regrouped None = refl
    regrouped (Some (more, left)) = refl

-- further constants, in a loop
pub none_turned : (b : ℕ) (front : List Constant) (turns : ℕ) (ts : List Token) → further_from b front turns ts ≡ further_from b front (turns - 0) ts
none_turned b front turns ts = ap (λ n. further_from b front n ts) (omega arith)

pub further_last : (b : ℕ) (front : List Constant) (turns turn : ℕ) (ts : List Token) → turns ≤ turn → further_from b front (turns - turn) ts ≡ Some (front, ts)
unfolding further_from
further_last b front turns turn ts h = items_last starts_constant (read_constant b) front turns turn ts h

pub further_none : (b : ℕ) (front : List Constant) (turns turn : ℕ) (ts same : List Token) → turn < turns → (next_at (mark_at sign.Comma) ts ≡ None) × (same ≡ ts) → further_from b front (turns - turn) ts ≡ Some (front, same)
unfolding further_from
further_none b front turns turn ts same h n = items_none starts_constant (read_constant b) front turns turn ts h n.0 ∙ ap (λ z. Some (front, z)) (sym n.1)

pub further_ended : (b : ℕ) (front : List Constant) (turns turn : ℕ) (x : ⊤) (ts rest : List Token) → turn < turns → next_at (mark_at sign.Comma) ts ≡ Some (x, rest) → starts_constant rest ≡ false → further_from b front (turns - turn) ts ≡ Some (front, rest)
unfolding further_from
further_ended b front turns turn x ts rest h n s = items_ended starts_constant (read_constant b) front turns turn x ts rest h n s

pub further_missing : (b : ℕ) (front : List Constant) (turns turn : ℕ) (x : ⊤) (ts rest : List Token) → turn < turns → next_at (mark_at sign.Comma) ts ≡ Some (x, rest) → starts_constant rest ≡ true → read_constant b rest ≡ None → further_from b front (turns - turn) ts ≡ None
unfolding further_from
further_missing b front turns turn x ts rest h n s e = items_missing starts_constant (read_constant b) front turns turn x ts rest h n s e

pub further_more : (b : ℕ) (front new : List Constant) (turns turn : ℕ) (x : ⊤) (ts rest left : List Token) (c : Constant) → turn < turns → next_at (mark_at sign.Comma) ts ≡ Some (x, rest) → starts_constant rest ≡ true → read_constant b rest ≡ Some (c, left) → new ≡ front ++ c ∷ [] → further_from b front (turns - turn) ts ≡ further_from b new (turns - (turn + 1)) left
unfolding further_from
further_more b front new turns turn x ts rest left c h n s e p = items_more starts_constant (read_constant b) front turns turn x ts rest left c h n s e ∙ ap (λ z. further_from b z (turns - (turn + 1)) left) (sym p)
