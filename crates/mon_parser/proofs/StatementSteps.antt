-- The readers of statements, one step each, in the parts that the code reads.
use Rattle.std.proofs.Common.{◌≡◌, ℕ, zero, suc, ◌+◌, ◌-◌, ◌<◌, ◌≤◌, List, [], ◌∷◌, ◌++◌, length, refl, sym, ap, ◌∙◌, arith, append_assoc, append-nil}
use Rattle.std.specs.Prelude.{Some, None, Bool, true, false, ⊤}
use Rattle.mon_lexer.specs.declared.token.Token.{Token}
use Rattle.mon_parser.specs.declared.cursor.Sign.TheVariants as sign
use Rattle.mon_trees.specs.declared.tree.Targets.TheVariants as targets
use Rattle.mon_trees.specs.declared.tree.Simple.TheVariants as simple
use Rattle.mon_trees.specs.declared.tree.Statement.{Statement}
use Rattle.mon_trees.specs.declared.tree.Statement as stmt
use Rattle.mon_trees.specs.declared.tree.Statement.TheViews as compound
use Rattle.mon_trees.specs.declared.tree.Handler.{Handler}
use Rattle.mon_parser.specs.Tokens.{first_line, augmented_op}
use Rattle.mon_parser.specs.Depth.{stmt_depth}
use Rattle.mon_parser.specs.Grammar.{handler}
use Rattle.mon_parser.specs.Reader.{Answer, then_read, choose, pick, next_at, mark_at, name_at, within, more_items, is_comma, starts, read_expr}
use Rattle.mon_parser.specs.Statements.{starts_name, read_targets, read_parameters, read_statement, read_statements, read_as, read_handlers, is_none}
use Rattle.mon_parser.proofs.Steps.{items_last, items_none, items_ended, items_missing, items_more, from_start}
use Rattle.mon_parser.proofs.Calls.{found, taken, passed, picked, unpicked}
use Rattle.mon_parser.specs.Code.{with_front}
use Rattle.mon_parser.specs.Readings.{at_expressions, at_right_side}
use Rattle.mon_parser.specs.StatementReadings.{at_simple, at_returned, at_raised, at_assignment_or_value, at_augmented, at_assignment, at_line, at_statement, at_branch, at_while, at_for, at_try, at_other, at_elif, handlers_from, at_handler, at_bare_handler, statements_from, at_last, at_body, at_block, block_line, names_from}

-- what follows a choice, or two parts, follows each way
pub choose_then : {A B C : Type 0} (read : Answer A) (other : Answer B) (go : A → List Token → Answer B) (next : B → List Token → Answer C) → then_read (choose read other go) next ≡ choose read (then_read other next) (λ a rest. then_read (go a rest) next)
unfolding choose
choose_then None other go next = refl
choose_then (Some (a, rest)) other go next = refl

pub then_then : {A B C : Type 0} (read : Answer A) (go : A → List Token → Answer B) (next : B → List Token → Answer C) → then_read (then_read read go) next ≡ then_read read (λ a rest. then_read (go a rest) next)
unfolding then_read
then_then None go next = refl
then_then (Some (a, rest)) go next = refl

pub then_found : {A B : Type 0} (a : A) (rest : List Token) (go : A → List Token → Answer B) → then_read (Some (a, rest)) go ≡ go a rest
unfolding then_read
then_found a rest go = refl

-- a list that was read behind another
pub front_more : {A : Type 0} (front : List A) (a : A) (read : Answer (List A)) → then_read read (λ more rest. Some (front ++ (a ∷ more), rest)) ≡ with_front (front ++ a ∷ []) read
unfolding then_read
front_more front a None = refl
front_more front a (Some (more, rest)) = ap (λ z. Some (z, rest)) (sym (append_assoc front (a ∷ []) more))

pub simple_is : (b n : ℕ) (ts : List Token) → at_simple b n ts ≡
    choose (next_at (mark_at sign.Pass) ts)
    (choose (next_at (mark_at sign.Break) ts)
    (choose (next_at (mark_at sign.Continue) ts)
    (choose (next_at (mark_at sign.Return) ts)
    (choose (next_at (mark_at sign.Raise) ts)
    (at_assignment_or_value b n ts)
    (λ is rest. at_raised b n rest))
    (λ is rest. at_returned b n rest))
    (λ is rest. Some (simple.Continue, rest)))
    (λ is rest. Some (simple.Break, rest)))
    (λ is rest. Some (simple.Pass, rest))
unfolding at_simple at_assignment_or_value at_returned at_raised
simple_is b n ts = refl

pub returned_none : (b n : ℕ) (ts : List Token) → starts ts ≡ false → at_returned b n ts ≡ Some (simple.Return None, ts)
unfolding at_returned
returned_none b n ts s = ap (λ w. then_read w (λ value rest. Some (simple.Return value, rest))) (unpicked _ _ s) ∙ then_found _ _ _

pub returned_is : (b n : ℕ) (ts : List Token) → starts ts ≡ true → at_returned b n ts ≡ then_read (at_expressions b n ts) (λ e rest. Some (simple.Return (Some e), rest))
unfolding at_returned at_expressions
returned_is b n ts s = ap (λ w. then_read w (λ value rest. Some (simple.Return value, rest))) (picked _ _ s) ∙ then_then _ _ _ ∙ simp then_found

pub raised_none : (b n : ℕ) (ts : List Token) → starts ts ≡ false → at_raised b n ts ≡ Some (simple.Raise None, ts)
unfolding at_raised
raised_none b n ts s = ap (λ w. then_read w (λ value rest. Some (simple.Raise value, rest))) (unpicked _ _ s) ∙ then_found _ _ _

pub raised_is : (b n : ℕ) (ts : List Token) → starts ts ≡ true → at_raised b n ts ≡ then_read (read_expr b n ts) (λ e rest. Some (simple.Raise (Some e), rest))
unfolding at_raised
raised_is b n ts s = ap (λ w. then_read w (λ value rest. Some (simple.Raise value, rest))) (picked _ _ s) ∙ then_then _ _ _ ∙ simp then_found

pub assignment_or_value_is : (b n : ℕ) (ts : List Token) → at_assignment_or_value b n ts ≡ then_read (at_right_side b n ts) (λ e rest.
    choose (next_at augmented_op rest)
    (choose (next_at (mark_at sign.Assign) rest)
    (Some (simple.Expression e, rest))
    (λ is left. at_assignment b n ts))
    (λ op left. at_augmented b n ts))
unfolding at_assignment_or_value at_right_side at_assignment at_augmented
assignment_or_value_is b n ts = refl

pub augmented_is : (b n : ℕ) (ts : List Token) → at_augmented b n ts ≡ then_read (next_at name_at ts) (λ m rest. then_read (next_at augmented_op rest) (λ op left. then_read (at_right_side b n left) (λ e end. Some (simple.Augmented m op e, end))))
unfolding at_augmented at_right_side
augmented_is b n ts = refl

pub assignment_is : (b n : ℕ) (ts : List Token) → at_assignment b n ts ≡ then_read (read_targets ts) (λ to rest. then_read (next_at (mark_at sign.Assign) rest) (λ is left. then_read (at_right_side b n left) (λ e end. Some (simple.Assign to e, end))))
unfolding at_assignment at_right_side
assignment_is b n ts = refl

-- a line
pub line_none : (b n : ℕ) (ts : List Token) → n ≡ 0 → at_line b n ts ≡ None
unfolding at_line
line_none b n ts e = rw e refl

pub line_is : (b n : ℕ) (ts : List Token) → 0 < n → at_line b n ts ≡ then_read (at_simple b (n - 1) ts) (λ s rest. then_read (next_at (mark_at sign.Newline) rest) (λ is left. within stmt_depth (stmt.Simple (first_line ts) s) left))
unfolding at_line at_simple
line_is b n ts h = by_suc n (n - 1) (omega arith)
  where
    by_suc : (n j : ℕ) → n ≡ suc j → at_line b n ts ≡ then_read (at_simple b j ts) (λ s rest. then_read (next_at (mark_at sign.Newline) rest) (λ is left. within stmt_depth (stmt.Simple (first_line ts) s) left))
    by_suc n j e = rw e refl

-- a statement
pub statement_none : (b n : ℕ) (ts : List Token) → n ≡ 0 → at_statement b n ts ≡ None
unfolding at_statement read_statement
statement_none b n ts e = rw e refl

pub branch_is : (b n line : ℕ) (ts : List Token) → at_branch b n line ts ≡ then_read (read_expr b n ts) (λ test rest. then_read (at_body b n rest) (λ body left. then_read (at_other b n left) (λ other end. within stmt_depth (compound.If line test body other) end)))
unfolding at_branch at_body at_other
branch_is b n line ts = refl

pub while_is : (b n line : ℕ) (ts : List Token) → at_while b n line ts ≡ then_read (read_expr b n ts) (λ test rest. then_read (at_body b n rest) (λ body left. within stmt_depth (compound.While line test body) left))
unfolding at_while at_body
while_is b n line ts = refl

pub for_is : (b n line : ℕ) (ts : List Token) → at_for b n line ts ≡ then_read (read_targets ts) (λ to rest. then_read (next_at (mark_at sign.In) rest) (λ is left. then_read (at_expressions b n left) (λ over end. then_read (at_body b n end) (λ body last. within stmt_depth (compound.For line to over body) last))))
unfolding at_for at_body at_expressions
for_is b n line ts = refl

no_front : {A : Type 0} (read : Answer (List A)) → with_front [] read ≡ read
unfolding then_read
no_front None = refl
no_front (Some (a, rest)) = refl

pub try_is : (b n line : ℕ) (ts : List Token) → at_try b n line ts ≡ then_read (at_body b n ts) (λ body rest. then_read (handlers_from b n [] (length rest) rest) (λ handlers left. then_read (at_last b n (is_none handlers) left) (λ last end. within stmt_depth (compound.Try line body handlers last) end)))
unfolding at_try at_body at_last handlers_from
try_is b n line ts = simp no_front

pub statement_is : (b n : ℕ) (ts : List Token) → 0 < n → at_statement b n ts ≡
    choose (next_at (mark_at sign.If) ts)
    (choose (next_at (mark_at sign.While) ts)
    (choose (next_at (mark_at sign.For) ts)
    (choose (next_at (mark_at sign.Try) ts)
    (at_line b n ts)
    (λ is rest. at_try b (n - 1) (first_line ts) rest))
    (λ is rest. at_for b (n - 1) (first_line ts) rest))
    (λ is rest. at_while b (n - 1) (first_line ts) rest))
    (λ is rest. at_branch b (n - 1) (first_line ts) rest)
unfolding at_statement at_line at_branch at_while at_for at_try read_statement
statement_is b n ts h = by_suc n (n - 1) (omega arith)
  where
    by_suc : (n j : ℕ) → n ≡ suc j → at_statement b n ts ≡
        choose (next_at (mark_at sign.If) ts)
        (choose (next_at (mark_at sign.While) ts)
        (choose (next_at (mark_at sign.For) ts)
        (choose (next_at (mark_at sign.Try) ts)
        (at_line b n ts)
        (λ is rest. at_try b j (first_line ts) rest))
        (λ is rest. at_for b j (first_line ts) rest))
        (λ is rest. at_while b j (first_line ts) rest))
        (λ is rest. at_branch b j (first_line ts) rest)
    by_suc n j e = rw e refl

-- the rest of an `if`
pub other_is : (b n : ℕ) (ts : List Token) → at_other b n ts ≡ choose (next_at (mark_at sign.Elif) ts) (choose (next_at (mark_at sign.Else) ts) (Some ([], ts)) (λ is rest. at_body b n rest)) (λ is rest. at_elif b n (first_line ts) rest)
unfolding at_other at_body at_elif
other_is b n ts = refl

pub elif_none : (b n line : ℕ) (ts : List Token) → n ≡ 0 → at_elif b n line ts ≡ None
unfolding at_elif read_statement then_read
elif_none b n line ts e = rw e refl

pub elif_is : (b n line : ℕ) (ts : List Token) → 0 < n → at_elif b n line ts ≡ then_read (at_branch b (n - 1) line ts) (λ s rest. Some (s ∷ [], rest))
unfolding at_elif at_branch read_statement
elif_is b n line ts h = by_suc n (n - 1) (omega arith)
  where
    by_suc : (n j : ℕ) → n ≡ suc j → at_elif b n line ts ≡ then_read (at_branch b j line ts) (λ s rest. Some (s ∷ [], rest))
    by_suc n j e = rw e refl

pub last_is : (b n : ℕ) (needed : Bool) (ts : List Token) → at_last b n needed ts ≡ choose (next_at (mark_at sign.Finally) ts) (pick needed None (Some ([], ts))) (λ is rest. at_body b n rest)
unfolding at_last at_body
last_is b n needed ts = refl

pub body_is : (b n : ℕ) (ts : List Token) → at_body b n ts ≡ then_read (next_at (mark_at sign.Colon) ts) (λ is rest. at_block b n rest)
unfolding at_body at_block
body_is b n ts = refl

pub block_is : (b n : ℕ) (ts : List Token) → at_block b n ts ≡ choose (next_at (mark_at sign.Newline) ts) (block_line b n ts) (λ is rest. then_read (next_at (mark_at sign.Indent) rest) (λ is left. statements_from b n [] (length left) left))
unfolding at_block block_line statements_from
block_is b n ts = simp no_front

pub block_line_is : (b n : ℕ) (ts : List Token) → block_line b n ts ≡ then_read (at_line b n ts) (λ s rest. Some (s ∷ [], rest))
unfolding block_line at_line
block_line_is b n ts = refl

-- the loop of a block
pub statements_end : (b n : ℕ) (front : List Statement) (turns turn : ℕ) (ts : List Token) → turns ≤ turn → statements_from b n front (turns - turn) ts ≡ None
unfolding statements_from read_statements then_read
statements_end b n front turns turn ts h = let e : turns - turn ≡ zero = omega arith in rw e refl

pub statements_go : (b n : ℕ) (front : List Statement) (turns turn : ℕ) (ts : List Token) → turn < turns → statements_from b n front (turns - turn) ts ≡ then_read (at_statement b n ts) (λ s rest.
    choose (next_at (mark_at sign.Dedent) rest) (statements_from b n (front ++ s ∷ []) (turns - (turn + 1)) rest) (λ is left. Some (front ++ s ∷ [], left)))
unfolding statements_from at_statement read_statements
statements_go b n front turns turn ts h = let e : turns - turn ≡ suc (turns - (turn + 1)) = omega arith in rw e (simp (then_then, choose_then, then_found, front_more))

-- the loop of handlers
pub handlers_end : (b n : ℕ) (front : List Handler) (turns turn : ℕ) (ts : List Token) → turns ≤ turn → handlers_from b n front (turns - turn) ts ≡ Some (front, ts)
unfolding handlers_from read_handlers then_read
handlers_end b n front turns turn ts h = let e : turns - turn ≡ zero = omega arith in rw (e, append-nil) refl

pub handlers_go : (b n : ℕ) (front : List Handler) (turns turn : ℕ) (ts : List Token) → turn < turns → handlers_from b n front (turns - turn) ts ≡ choose (next_at (mark_at sign.Except) ts) (Some (front, ts)) (λ is rest.
    choose (next_at (mark_at sign.Colon) rest)
    (then_read (at_handler b n (first_line ts) front rest) (λ all last. handlers_from b n all (turns - (turn + 1)) last))
    (λ is left. at_bare_handler b n (first_line ts) front left))
unfolding handlers_from at_handler at_bare_handler read_handlers
handlers_go b n front turns turn ts h = let e : turns - turn ≡ suc (turns - (turn + 1)) = omega arith in rw e (simp (then_then, choose_then, then_found, front_more, append-nil))

pub handler_is : (b n line : ℕ) (front : List Handler) (ts : List Token) → at_handler b n line front ts ≡ then_read (read_expr b n ts) (λ class rest. then_read (read_as rest) (λ name left. then_read (at_body b n left) (λ body end. Some (front ++ handler line (Some class) name body ∷ [], end))))
unfolding at_handler at_body
handler_is b n line front ts = refl

pub bare_handler_is : (b n line : ℕ) (front : List Handler) (ts : List Token) → at_bare_handler b n line front ts ≡ then_read (at_block b n ts) (λ body rest. Some (front ++ handler line None None body ∷ [], rest))
unfolding at_bare_handler at_block
bare_handler_is b n line front ts = refl

-- in the forms in which the code comes to them
pub handlers_start : (b n : ℕ) (front : List Handler) (turns : ℕ) (ts : List Token) → front ≡ [] → handlers_from b n [] turns ts ≡ handlers_from b n front (turns - 0) ts
handlers_start b n front turns ts e = ap (λ k. handlers_from b n [] k ts) (omega arith) ∙ ap (λ w. handlers_from b n w (turns - 0) ts) (sym e)

pub handlers_named : (b n : ℕ) (front : List Handler) (turns turn line : ℕ) (is : ⊤) (ts rest same : List Token) → turn < turns → line ≡ first_line ts → next_at (mark_at sign.Except) ts ≡ Some (is, rest) → (next_at (mark_at sign.Colon) rest ≡ None) × (same ≡ rest)
    → handlers_from b n front (turns - turn) ts ≡ then_read (at_handler b n line front same) (λ all last. handlers_from b n all (turns - (turn + 1)) last)
handlers_named b n front turns turn line is ts rest same h l e k = handlers_go b n front turns turn ts h ∙ taken _ _ e ∙ passed _ _ k.0
    ∙ ap (λ w. then_read (at_handler b n (first_line ts) front w) (λ all last. handlers_from b n all (turns - (turn + 1)) last)) (sym k.1) ∙ ap (λ w. then_read (at_handler b n w front same) (λ all last. handlers_from b n all (turns - (turn + 1)) last)) (sym l)

pub statements_start : (b n : ℕ) (front : List Statement) (turns : ℕ) (ts : List Token) → front ≡ [] → statements_from b n [] turns ts ≡ statements_from b n front (turns - 0) ts
statements_start b n front turns ts e = ap (λ k. statements_from b n [] k ts) (omega arith) ∙ ap (λ w. statements_from b n w (turns - 0) ts) (sym e)

-- names
pub names_start : (front : List (List ℕ)) (turns : ℕ) (ts : List Token) → names_from front turns ts ≡ names_from front (turns - 0) ts
names_start front turns ts = ap (λ k. names_from front k ts) (omega arith)

pub names_end : (front : List (List ℕ)) (turns turn : ℕ) (ts : List Token) → turns ≤ turn → names_from front (turns - turn) ts ≡ Some (front, ts)
unfolding names_from
names_end front turns turn ts h = items_last starts_name (next_at name_at) front turns turn ts h

pub names_alone : (front : List (List ℕ)) (turns turn : ℕ) (ts same : List Token) → turn < turns → (next_at (mark_at sign.Comma) ts ≡ None) × (same ≡ ts) → names_from front (turns - turn) ts ≡ Some (front, same)
unfolding names_from
names_alone front turns turn ts same h k = items_none starts_name (next_at name_at) front turns turn ts h k.0 ∙ ap (λ w. Some (front, w)) (sym k.1)

pub names_comma : (front : List (List ℕ)) (turns turn : ℕ) (is : ⊤) (ts rest : List Token) → turn < turns → next_at (mark_at sign.Comma) ts ≡ Some (is, rest) → starts_name rest ≡ false → names_from front (turns - turn) ts ≡ Some (front, rest)
unfolding names_from
names_comma front turns turn is ts rest h e s = items_ended starts_name (next_at name_at) front turns turn is ts rest h e s

pub names_missing : (front : List (List ℕ)) (turns turn : ℕ) (is : ⊤) (ts rest : List Token) → turn < turns → next_at (mark_at sign.Comma) ts ≡ Some (is, rest) → starts_name rest ≡ true → next_at name_at rest ≡ None → names_from front (turns - turn) ts ≡ None
unfolding names_from
names_missing front turns turn is ts rest h e s i = items_missing starts_name (next_at name_at) front turns turn is ts rest h e s i

pub names_more : (front all : List (List ℕ)) (turns turn : ℕ) (is : ⊤) (ts rest left : List Token) (n : List ℕ) → turn < turns → next_at (mark_at sign.Comma) ts ≡ Some (is, rest) → starts_name rest ≡ true → next_at name_at rest ≡ Some (n, left) → all ≡ front ++ n ∷ []
    → names_from front (turns - turn) ts ≡ names_from all (turns - (turn + 1)) left
unfolding names_from
names_more front all turns turn is ts rest left n h e s i p = items_more starts_name (next_at name_at) front turns turn is ts rest left n h e s i ∙ ap (λ w. with_front w (more_items starts_name (next_at name_at) (turns - (turn + 1)) left)) (sym p)

pub targets_go : (ts rest : List Token) (n : List ℕ) (names : List (List ℕ)) → next_at name_at ts ≡ Some (n, rest) → is_comma rest ≡ true → names ≡ n ∷ [] → read_targets ts ≡ then_read (names_from names (length rest) rest) (λ all left. Some (targets.Tuple all, left))
unfolding then_read names_from
targets_go ts rest n names e c p = found _ e ∙ picked _ _ c ∙ by_names (more_items starts_name (next_at name_at) (length rest) rest) ∙ opened ∙ ap (λ w. then_read (names_from w (length rest) rest) (λ all left. Some (targets.Tuple all, left))) (sym p)
  where
    by_names : (read : Answer (List (List ℕ))) → then_read read (λ ns left. Some (targets.Tuple (n ∷ ns), left)) ≡ then_read (with_front (n ∷ []) read) (λ all left. Some (targets.Tuple all, left))
    by_names None = refl
    by_names (Some (ns, left)) = refl

    opened : then_read (with_front (n ∷ []) (more_items starts_name (next_at name_at) (length rest) rest)) (λ all left. Some (targets.Tuple all, left)) ≡ then_read (names_from (n ∷ []) (length rest) rest) (λ all left. Some (targets.Tuple all, left))
    opened = refl

pub parameters_go : (ts rest : List Token) (n : List ℕ) (names : List (List ℕ)) → starts_name ts ≡ true → next_at name_at ts ≡ Some (n, rest) → names ≡ n ∷ [] → read_parameters ts ≡ names_from names (length rest) rest
unfolding names_from
parameters_go ts rest n names s e p = picked _ _ s ∙ found _ e ∙ opened ∙ ap (λ w. names_from w (length rest) rest) (sym p)
  where
    opened : then_read (more_items starts_name (next_at name_at) (length rest) rest) (λ ns left. Some (n ∷ ns, left)) ≡ names_from (n ∷ []) (length rest) rest
    opened = sym (from_start n (more_items starts_name (next_at name_at) (length rest) rest))
