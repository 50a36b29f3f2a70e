-- Clauses one after another, up to a bare one.
use Rattle.std.proofs.Common.{◌≡◌, ℕ, ◌+◌, ◌<◌, Bool, true, false, not, if◌then◌else◌, List, ◌∷◌, ◌++◌, length, map, drop, get_or, refl, sym, ap, ◌∙◌, append_assoc, length-append}
use Rattle.std.specs.Prelude.{Option, Some, None}
use Rattle.std.specs.Option.{is_some}
use Rattle.std.proofs.lemmas.List.{drop_more}
use Rattle.mon_trees.specs.declared.tree.Expression.{Expression}
use Rattle.mon_trees.specs.declared.tree.Handler.{Handler}
use Rattle.mon_trees.specs.declared.tree.Statement.TheFolds.{fold_out-Handler}
use Rattle.mon_compile.specs.declared.assembly.Instruction.{Instruction}
use Rattle.mon_compile.specs.declared.assembly.Label.{Label}
use Rattle.mon_compile.specs.Contexts.{Context}
use Rattle.mon_compile.specs.Expressions.{Locals}
use Rattle.mon_compile.specs.Statements.{Scheme, ClauseScheme, block_code, coder_of, clause_code, clauses_code, statement_step, handler_step, handler_code}

class_bare : (locals : Locals) (line : ℕ) (class : Option Expression) (name : Option (List ℕ)) (b : Scheme) → (clause_code locals line (coder_of locals class) name b).is_bare ≡ not (is_some class)
class_bare locals line None name b = refl
class_bare locals line (Some e) None b = refl
class_bare locals line (Some e) (Some n) b = refl

pub bare_of : (locals : Locals) (c : Handler) (b : Bool) → is_some c.class ≡ b → (handler_code locals c).is_bare ≡ not b
bare_of locals c b e =
    ap (λ (s : ClauseScheme). s.is_bare) (fold_out-Handler Scheme ClauseScheme (statement_step locals) (handler_step locals) c)
    ∙ class_bare locals c.line c.class c.name (block_code locals c.body)
    ∙ ap (λ k. not k) e

-- what is left of the clauses at an index
left_at : (cs : List Handler) (i : ℕ) (c : Handler) → i < length cs → c ≡ get_or cs i c → drop i cs ≡ c ∷ drop (i + 1) cs
left_at cs i c h is = drop_more cs i c h ∙ ap (λ (x : Handler). x ∷ drop (i + 1) cs) (sym is)

pub clauses_last : (locals : Locals) (cs : List Handler) (i : ℕ) (c : Handler) (y : Label) (context : Context) (code new whole : List Instruction) → i < length cs → c ≡ get_or cs i c → new ≡ code ++ (handler_code locals c).code y context (length code) → (handler_code locals c).is_bare ≡ true
    → code ++ clauses_code (map (handler_code locals) (drop i cs)) y context (length code) ≡ whole → new ≡ whole
clauses_last locals cs i c y context code new whole h is e bare k =
    let piece = (handler_code locals c).code y context (length code) in
    let more = clauses_code (map (handler_code locals) (drop (i + 1) cs)) y context (length code + length piece) in
    e
    ∙ ap (λ l. code ++ l) (sym (ap (λ b. if b then piece else piece ++ more) bare))
    ∙ ap (λ (l : List Handler). code ++ clauses_code (map (handler_code locals) l) y context (length code)) (sym (left_at cs i c h is))
    ∙ k

pub clauses_next : (locals : Locals) (cs : List Handler) (i : ℕ) (c : Handler) (y : Label) (context : Context) (code new whole : List Instruction) → i < length cs → c ≡ get_or cs i c → new ≡ code ++ (handler_code locals c).code y context (length code) → (handler_code locals c).is_bare ≡ false
    → code ++ clauses_code (map (handler_code locals) (drop i cs)) y context (length code) ≡ whole → new ++ clauses_code (map (handler_code locals) (drop (i + 1) cs)) y context (length new) ≡ whole
clauses_next locals cs i c y context code new whole h is e bare k =
    let piece = (handler_code locals c).code y context (length code) in
    let rest = clauses_code (map (handler_code locals) (drop (i + 1) cs)) y context in
    let more = rest (length code + length piece) in
    ap (λ l. l ++ rest (length l)) e
    ∙ ap (λ at. (code ++ piece) ++ rest at) (length-append code piece)
    ∙ append_assoc code piece more
    ∙ ap (λ l. code ++ l) (sym (ap (λ b. if b then piece else piece ++ more) bare))
    ∙ ap (λ (l : List Handler). code ++ clauses_code (map (handler_code locals) l) y context (length code)) (sym (left_at cs i c h is))
    ∙ k
