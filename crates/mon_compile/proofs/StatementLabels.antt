-- The code of a statement has the labels of its context and no others: another label there is another label here.
use Rattle.std.proofs.Common.{◌≡◌, ℕ, ◌+◌, List, [], ◌∷◌, ◌++◌, length, map, refl, sym, ap, ◌∙◌, subst}
use Rattle.std.proofs.lemmas.List.{map-append, length-map}
use Rattle.mon_events.specs.declared.op.Op.{Op}
use Rattle.mon_trees.specs.declared.tree.Targets.{Targets}
use Rattle.mon_trees.specs.declared.tree.Targets.TheVariants as targets
use Rattle.mon_compile.specs.declared.assembly.Label.{Label}
use Rattle.mon_compile.specs.declared.assembly.Label.TheVariants.{At}
use Rattle.mon_compile.specs.declared.assembly.Argument.TheVariants.{Number, Destination}
use Rattle.mon_compile.specs.Contexts.{FromAt, Entry, While, For, Try, Except, ExceptAs, Finally, Raised, Returning, Context, Spot, put, none, above, beside, bare, at_line, no_line}
use Rattle.mon_compile.specs.Expressions.{Coder, Locals, store_code, store_names, number_of_local}
use Rattle.mon_compile.specs.Statements.{Scheme, ClauseScheme, block, leave_all, return_code, ending_code, assign_code, augmented_code, single_code, if_code, if_else_code, branch_code, while_code, for_code, in_clause, except_body, except_code, except_as_body, except_as_code, bare_code, clauses_code, handlers_code, finally_code, guarded, try_code}
use Rattle.mon_compile.specs.Moved.{moved, moved_spot, moved_entry, moved_context, Fixes}
pub use Rattle.mon_compile.specs.InnerContexts.{Carrying}
use Rattle.mon_compile.proofs.ExpressionLabels.{Moving}
use Rattle.mon_compile.proofs.ContextLabels.{values_moved, exceptions_moved, handler_moved, leave_all_moved, chosen}

abbrev pub AllCarrying : (Label → Label) → List Scheme → Type 0
AllCarrying g [] = Unit {0}
AllCarrying g (a ∷ more) = Carrying g a × AllCarrying g more

-- a part inside one entry more
pub under : (g : Label → Label) (a : Scheme) → Carrying g a → (e e' : Entry) → e' ≡ moved_entry g e → (context : Context) → Fixes g → (at : ℕ) → a (e' ∷ moved_context g context) at ≡ map (moved g) (a (e ∷ context) at)
under g a m e e' same context fix at = ap (λ (x : Entry). a (x ∷ moved_context g context) at) same ∙ m (e ∷ context) fix at

-- its length
pub sized : (g : Label → Label) (a : Scheme) → Carrying g a → (e e' : Entry) → e' ≡ moved_entry g e → (context : Context) → Fixes g → (at : ℕ) → length (a (e' ∷ moved_context g context) at) ≡ length (a (e ∷ context) at)
sized g a m e e' same context fix at = ap length (under g a m e e' same context fix at) ∙ length-map (a (e ∷ context) at) (moved g)

pub block_carrying : (g : Label → Label) (parts : List Scheme) → AllCarrying g parts → Carrying g (block parts)
block_carrying g [] m context fix at = refl
block_carrying g (a ∷ parts) m context fix at =
    let code = a context at in
    rw (m.0 context fix at, length-map code (moved g), block_carrying g parts m.1 context fix (at + length code), map-append (moved g) code (block parts context (at + length code))) refl

pub if_carrying : (g : Label → Label) (line : ℕ) (c : Coder) (a : Scheme) → Moving g c → Carrying g a → Carrying g (if_code line c a)
if_carrying g line c a mc ma context fix at =
    let s = at_line line context in
    let from = at + length (c s at) + 1 in
    rw (values_moved g context, exceptions_moved g context, handler_moved g context, mc s at, length-map (c s at) (moved g), ma context fix from, length-map (a context from) (moved g), map-append (moved g) (c s at) (put (above 1 s) Op.PopJumpIfFalse (Destination (At (from + length (a context from)))) ∷ a context from), fix (from + length (a context from))) refl

pub while_carrying : (g : Label → Label) (line : ℕ) (c : Coder) (a : Scheme) → Moving g c → Carrying g a → Carrying g (while_code line c a)
while_carrying g line c a mc ma context fix x =
    let s = at_line line context in
    let from = x + length (c s x) + 1 in
    let e = While x (At 0) in
    let y = from + length (a (e ∷ context) from) + 1 in
    let back = put (no_line context) Op.JumpBackward (Destination (At x)) ∷ [] in
    rw (
      values_moved g context,
      exceptions_moved g context,
      handler_moved g context,
      mc s x,
      length-map (c s x) (moved g),
      sized g a ma e e (ap (While x) (sym (fix 0))) context fix from,
      under g a ma (While x (At y)) (While x (At y)) (ap (While x) (sym (fix y))) context fix from,
      map-append (moved g) (c s x) (put (above 1 s) Op.PopJumpIfFalse (Destination (At y)) ∷ (a (While x (At y) ∷ context) from ++ back)),
      map-append (moved g) (a (While x (At y) ∷ context) from) back,
      fix y,
      fix x,
    ) refl

store_names_moved : (g : Label → Label) (locals : Locals) (ns : List (List ℕ)) (s : Spot) → store_names locals ns (moved_spot g s) ≡ map (moved g) (store_names locals ns s)
store_names_moved g locals [] s = refl
store_names_moved g locals (n ∷ ns) s = ap (λ l. put (above (1 + length ns) (moved_spot g s)) Op.StoreFast (Number (number_of_local locals n)) ∷ l) (store_names_moved g locals ns s)

pub store_moved : (g : Label → Label) (locals : Locals) (t : Targets) (s : Spot) → store_code locals t (moved_spot g s) ≡ map (moved g) (store_code locals t s)
store_moved g locals (targets.Name n) s = refl
store_moved g locals (targets.Tuple ns) s = ap (λ l. put (above 1 (moved_spot g s)) Op.UnpackSequence (Number (length ns)) ∷ l) (store_names_moved g locals ns s)

pub return_carrying : (g : Label → Label) (line : ℕ) (e : Coder) → Moving g e → Carrying g (return_code line e)
return_carrying g line e m context fix at =
    let s = at_line line context in
    let value = e s at in
    let leaving = leave_all context (at + length value) in
    let end = put (above 1 (at_line line [])) Op.ReturnValue none ∷ [] in
    rw (values_moved g context, exceptions_moved g context, handler_moved g context, m s at, length-map value (moved g), leave_all_moved g context (at + length value), map-append (moved g) value (leaving ++ end), map-append (moved g) leaving end) refl

pub if_else_carrying : (g : Label → Label) (line : ℕ) (c : Coder) (a b : Scheme) → Moving g c → Carrying g a → Carrying g b → Carrying g (if_else_code line c a b)
if_else_carrying g line c a b mc ma mb context fix at =
    let s = at_line line context in
    let test = c s at in
    let from = at + length test + 1 in
    let body = a context from in
    let x = from + length body + 1 in
    let other = b context x in
    let y = x + length other in
    let behind = put (no_line context) Op.JumpForward (Destination (At y)) ∷ other in
    rw (
      values_moved g context,
      exceptions_moved g context,
      handler_moved g context,
      mc s at,
      length-map test (moved g),
      ma context fix from,
      length-map body (moved g),
      mb context fix x,
      length-map other (moved g),
      map-append (moved g) test (put (above 1 s) Op.PopJumpIfFalse (Destination (At x)) ∷ (body ++ behind)),
      map-append (moved g) body behind,
      fix x,
      fix y,
    ) refl

pub for_carrying : (g : Label → Label) (locals : Locals) (line : ℕ) (t : Targets) (e : Coder) (a : Scheme) → Moving g e → Carrying g a → Carrying g (for_code locals line t e a)
for_carrying g locals line t e a me ma context fix at =
    let s = at_line line context in
    let whole = e s at in
    let x = at + length whole + 1 in
    let store = store_code locals t (above 1 s) in
    let from = x + 2 + length store in
    let open_entry = For x (At 0) in
    let z = from + length (a (open_entry ∷ context) from) + 1 in
    let body = a (For x (At (z + 1)) ∷ context) from in
    let behind = put (above 1 (bare s)) Op.JumpBackward (Destination (At x)) ∷ (put (above 1 (bare s)) Op.EndFor none ∷ []) in
    rw (
      values_moved g context,
      exceptions_moved g context,
      handler_moved g context,
      me s at,
      length-map whole (moved g),
      store_moved g locals t (above 1 s),
      length-map store (moved g),
      sized g a ma open_entry open_entry (ap (For x) (sym (fix 0))) context fix from,
      under g a ma (For x (At (z + 1))) (For x (At (z + 1))) (ap (For x) (sym (fix (z + 1)))) context fix from,
      map-append (moved g) whole (put (above 1 s) Op.GetIter none ∷ (put (above 1 s) Op.ForIter none ∷ (put (above 2 s) Op.PopJumpIfDone (Destination (At z)) ∷ (store ++ (body ++ behind))))),
      map-append (moved g) store (body ++ behind),
      map-append (moved g) body behind,
      fix z,
      fix x,
    ) refl

abbrev pub ClauseCarrying : (Label → Label) → (Label → Scheme) → Type 0
ClauseCarrying g c = (y : Label) (context : Context) → Fixes g → (at : ℕ) → c (g y) (moved_context g context) at ≡ map (moved g) (c y context at)

abbrev pub AllClauses : (Label → Label) → List ClauseScheme → Type 0
AllClauses g [] = Unit {0}
AllClauses g (c ∷ cs) = ClauseCarrying g c.code × AllClauses g cs

except_body_carrying : (g : Label → Label) (b : Scheme) → Carrying g b → ClauseCarrying g (except_body b)
except_body_carrying g b m y context fix at =
    rw (under g b m Except Except refl context fix at, values_moved g context, exceptions_moved g context, handler_moved g context, map-append (moved g) (b (Except ∷ context) at) (put (beside 1 (no_line context)) Op.PopExcept none ∷ (put (no_line context) Op.JumpForward (Destination y) ∷ []))) refl

pub except_carrying : (g : Label → Label) (line : ℕ) (t : Coder) (b : Scheme) → Moving g t → Carrying g b → ClauseCarrying g (except_code line t b)
except_carrying g line t b mt mb y context fix at =
    let s = in_clause (at_line line context) in
    let class = t s at in
    let from = at + length class + 3 in
    let body = except_body b y context from in
    let z = from + length body in
    let head : t (in_clause (at_line line (moved_context g context))) at ≡ map (moved g) class = rw (values_moved g context, exceptions_moved g context, handler_moved g context) (mt s at) in
    rw (
      head,
      length-map class (moved g),
      except_body_carrying g b mb y context fix from,
      length-map body (moved g),
      values_moved g context,
      exceptions_moved g context,
      handler_moved g context,
      map-append (moved g) class (put (above 1 s) Op.CheckExcMatch none ∷ (put (above 1 s) Op.PopJumpIfFalse (Destination (At z)) ∷ (put s Op.PopTop none ∷ body))),
      fix z,
    ) refl

except_as_body_carrying : (g : Label → Label) (n : ℕ) (b : Scheme) → Carrying g b → ClauseCarrying g (except_as_body n b)
except_as_body_carrying g n b m y context fix at =
    let open_entry = ExceptAs n (At 0) in
    let c = at + length (b (open_entry ∷ context) at) + 3 in
    let s = no_line context in
    rw (
      sized g b m open_entry open_entry (ap (ExceptAs n) (sym (fix 0))) context fix at,
      under g b m (ExceptAs n (At c)) (ExceptAs n (At c)) (ap (ExceptAs n) (sym (fix c))) context fix at,
      values_moved g context,
      exceptions_moved g context,
      handler_moved g context,
      map-append (moved g) (b (ExceptAs n (At c) ∷ context) at) (put (beside 1 s) Op.PopExcept none ∷ (put s Op.DeleteFast (Number n) ∷ (put s Op.JumpForward (Destination y) ∷ (put (above 1 s) Op.PushExcInfo none ∷ (put (in_clause s) Op.DeleteFast (Number n) ∷ (put (in_clause s) Op.Reraise none ∷ [])))))),
    ) refl

pub except_as_carrying : (g : Label → Label) (line : ℕ) (t : Coder) (n : ℕ) (b : Scheme) → Moving g t → Carrying g b → ClauseCarrying g (except_as_code line t n b)
except_as_carrying g line t n b mt mb y context fix at =
    let s = in_clause (at_line line context) in
    let class = t s at in
    let from = at + length class + 3 in
    let body = except_as_body n b y context from in
    let z = from + length body in
    let head : t (in_clause (at_line line (moved_context g context))) at ≡ map (moved g) class = rw (values_moved g context, exceptions_moved g context, handler_moved g context) (mt s at) in
    rw (
      head,
      length-map class (moved g),
      except_as_body_carrying g n b mb y context fix from,
      length-map body (moved g),
      values_moved g context,
      exceptions_moved g context,
      handler_moved g context,
      map-append (moved g) class (put (above 1 s) Op.CheckExcMatch none ∷ (put (above 1 s) Op.PopJumpIfFalse (Destination (At z)) ∷ (put s Op.StoreFast (Number n) ∷ body))),
      fix z,
    ) refl

pub bare_carrying : (g : Label → Label) (line : ℕ) (b : Scheme) → Carrying g b → ClauseCarrying g (bare_code line b)
bare_carrying g line b m y context fix at = rw (except_body_carrying g b m y context fix (at + 1), values_moved g context, exceptions_moved g context, handler_moved g context) refl

pub clauses_carrying : (g : Label → Label) (cs : List ClauseScheme) → AllClauses g cs → ClauseCarrying g (clauses_code cs)
clauses_carrying g [] m y context fix at = rw (values_moved g context, exceptions_moved g context, handler_moved g context) refl
clauses_carrying g (c ∷ cs) m y context fix at =
    let code = c.code y context at in
    let more = clauses_code cs y context (at + length code) in
    chosen g c.is_bare code (code ++ more) _ _ (m.0 y context fix at)
    (rw (m.0 y context fix at, length-map code (moved g), clauses_carrying g cs m.1 y context fix (at + length code), map-append (moved g) code more) refl)

pub handlers_carrying : (g : Label → Label) (a : Scheme) (cs : List ClauseScheme) → Carrying g a → AllClauses g cs → Carrying g (handlers_code a cs)
handlers_carrying g a cs ma mcs context fix at =
    let open_entry = Try (At 0) in
    let h = at + length (a (open_entry ∷ context) at) + 1 in
    let sizing = clauses_code cs (At 0) context (h + 1) in
    let y = h + 1 + length sizing in
    let clauses = clauses_code cs (At y) context (h + 1) in
    let sizing_is : clauses_code cs (At 0) (moved_context g context) (h + 1) ≡ map (moved g) sizing
    = ap (λ l. clauses_code cs l (moved_context g context) (h + 1)) (sym (fix 0)) ∙ clauses_carrying g cs mcs (At 0) context fix (h + 1) in
    let clauses_is : clauses_code cs (At y) (moved_context g context) (h + 1) ≡ map (moved g) clauses
    = ap (λ l. clauses_code cs l (moved_context g context) (h + 1)) (sym (fix y)) ∙ clauses_carrying g cs mcs (At y) context fix (h + 1) in
    rw (
      sized g a ma open_entry open_entry (ap Try (sym (fix 0))) context fix at,
      sizing_is,
      length-map sizing (moved g),
      clauses_is,
      under g a ma (Try (At h)) (Try (At h)) (ap Try (sym (fix h))) context fix at,
      values_moved g context,
      exceptions_moved g context,
      handler_moved g context,
      map-append (moved g) (a (Try (At h) ∷ context) at) (put (no_line context) Op.JumpForward (Destination (At y)) ∷ (put (above 1 (no_line context)) Op.PushExcInfo none ∷ clauses)),
      fix y,
    ) refl

pub fun_ext : {A B : Type 0} {f h : A → B} → ((x : A) → f x ≡ h x) → f ≡ h
fun_ext e = λ i x. e x i

-- the entry of a `finally` with another label
pub same_entry : (g : Label → Label) (f : Scheme) → Carrying g f → (context : Context) → Fixes g → (l : Label) → g l ≡ l
    → Finally (f (Returning ∷ moved_context g context)) (f (moved_context g context)) l ≡ moved_entry g (Finally (f (Returning ∷ context)) (f context) l)
same_entry g f m context fix l same =
    let on_return : f (Returning ∷ moved_context g context) ≡ (λ at. map (moved g) (f (Returning ∷ context) at)) = fun_ext (λ at. under g f m Returning Returning refl context fix at) in
    let on_break : f (moved_context g context) ≡ (λ at. map (moved g) (f context at)) = fun_ext (λ at. m context fix at) in
    ap (λ (r : FromAt). Finally r (f (moved_context g context)) l) on_return
    ∙ ap (λ (b : FromAt). Finally (λ at. map (moved g) (f (Returning ∷ context) at)) b l) on_break
    ∙ ap (λ k. Finally (λ at. map (moved g) (f (Returning ∷ context) at)) (λ at. map (moved g) (f context at)) k) (sym same)

abbrev with_label : Label → Entry → Entry
with_label l (Finally r b h) = Finally r b l
with_label l e = e

-- that of a context which these labels leave as it is
pub kept_entry : (g : Label → Label) (f : Scheme) → Carrying g f → (context : Context) → Fixes g → moved_context g context ≡ context → (l : Label) → moved_entry g (Finally (f (Returning ∷ context)) (f context) l) ≡ Finally (f (Returning ∷ context)) (f context) (g l)
kept_entry g f m context fix same l =
    let moved_on = moved_entry g (Finally (f (Returning ∷ context)) (f context) (At 0)) in
    ap (with_label (g l)) (sym (subst (λ (x : Context). Finally (f (Returning ∷ x)) (f x) (At 0) ≡ moved_on) same (same_entry g f m context fix (At 0) (fix 0))))

pub finally_carrying : (g : Label → Label) (body f : Scheme) → Carrying g body → Carrying g f → Carrying g (finally_code body f)
finally_carrying g body f mb mf context fix at =
    let entry = Finally (f (Returning ∷ context)) (f context) in
    let moved_one = Finally (f (Returning ∷ moved_context g context)) (f (moved_context g context)) in
    let from = at + length (body (entry (At 0) ∷ context) at) in
    let plain = f context from in
    let h = from + length plain + 1 in
    let raised = f (Raised ∷ context) (h + 1) in
    let y = h + 1 + length raised + 1 in
    let end = put (in_clause (no_line context)) Op.Reraise none ∷ [] in
    let behind = put (no_line context) Op.JumpForward (Destination (At y)) ∷ (put (above 1 (no_line context)) Op.PushExcInfo none ∷ (raised ++ end)) in
    rw (
      sized g body mb (entry (At 0)) (moved_one (At 0)) (same_entry g f mf context fix (At 0) (fix 0)) context fix at,
      mf context fix from,
      length-map plain (moved g),
      under g f mf Raised Raised refl context fix (h + 1),
      length-map raised (moved g),
      under g body mb (entry (At h)) (moved_one (At h)) (same_entry g f mf context fix (At h) (fix h)) context fix at,
      values_moved g context,
      exceptions_moved g context,
      handler_moved g context,
      map-append (moved g) (body (entry (At h) ∷ context) at) (plain ++ behind),
      map-append (moved g) plain behind,
      map-append (moved g) raised end,
      fix y,
    ) refl

pub guarded_carrying : (g : Label → Label) (a : Scheme) (cs : List ClauseScheme) → Carrying g a → AllClauses g cs → Carrying g (guarded a cs)
guarded_carrying g a [] ma mcs context fix at = ma context fix at
guarded_carrying g a (c ∷ cs) ma mcs context fix at = handlers_carrying g a (c ∷ cs) ma mcs context fix at

pub ending_carrying : (g : Label → Label) (line : ℕ) (e : Coder) (op : Op) (number : ℕ) → Moving g e → Carrying g (ending_code line e op number)
ending_carrying g line e op number m context fix at = rw (values_moved g context, exceptions_moved g context, handler_moved g context, m (at_line line context) at, map-append) refl

pub assign_carrying : (g : Label → Label) (locals : Locals) (line : ℕ) (t : Targets) (e : Coder) → Moving g e → Carrying g (assign_code locals line t e)
assign_carrying g locals line t e m context fix at =
    rw (values_moved g context, exceptions_moved g context, handler_moved g context, m (at_line line context) at, store_moved g locals t (at_line line context), map-append) refl

pub augmented_carrying : (g : Label → Label) (line n op : ℕ) (e : Coder) → Moving g e → Carrying g (augmented_code line n op e)
augmented_carrying g line n op e m context fix at =
    let s = at_line line context in
    rw (
      values_moved g context,
      exceptions_moved g context,
      handler_moved g context,
      m (above 1 s) (at + 1),
      map-append (moved g) (e (above 1 s) (at + 1)) (put (above 2 s) Op.BinaryOp (Number op) ∷ (put (above 1 s) Op.StoreFast (Number n) ∷ [])),
    ) refl

pub single_carrying : (g : Label → Label) (line : ℕ) (op : Op) → Carrying g (single_code line op)
single_carrying g line op context fix at = rw (values_moved g context, exceptions_moved g context, handler_moved g context) refl

pub branch_carrying : (g : Label → Label) (line : ℕ) (c : Coder) (a : Scheme) (b : List Scheme) → Moving g c → Carrying g a → AllCarrying g b → Carrying g (branch_code line c a b)
branch_carrying g line c a [] mc ma mb context fix at = if_carrying g line c a mc ma context fix at
branch_carrying g line c a (b ∷ bs) mc ma mb context fix at = if_else_carrying g line c a (block (b ∷ bs)) mc ma (block_carrying g (b ∷ bs) mb) context fix at

pub try_carrying : (g : Label → Label) (line : ℕ) (a : Scheme) (cs : List ClauseScheme) (fs : List Scheme) → Carrying g a → AllClauses g cs → AllCarrying g fs → Carrying g (try_code line a cs fs)
try_carrying g line a cs [] ma mcs mf context fix at =
    rw (handlers_carrying g a cs ma mcs context fix (at + 1), values_moved g context, exceptions_moved g context, handler_moved g context) refl
try_carrying g line a cs (f ∷ fs) ma mcs mf context fix at =
    rw (finally_carrying g (guarded a cs) (block (f ∷ fs)) (guarded_carrying g a cs ma mcs) (block_carrying g (f ∷ fs) mf) context fix (at + 1), values_moved g context, exceptions_moved g context, handler_moved g context) refl
