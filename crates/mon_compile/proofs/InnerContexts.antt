-- Inner contexts are closed, and lengths depend on no label.
use Rattle.std.proofs.Common.{◌≡◌, ◌∷◌, map, refl, ap, ◌∙◌}
use Rattle.mon_compile.specs.declared.assembly.Label.{Label}
use Rattle.mon_compile.specs.declared.assembly.Label.TheVariants.{At}
use Rattle.mon_compile.specs.Contexts.{Entry, Except, Raised, Returning, Context}
use Rattle.mon_compile.specs.Statements.{handler_code}
use Rattle.mon_compile.specs.Moved.{Fixes, moved_entry, moved_context}
use Rattle.mon_compile.specs.InnerContexts.{Closed, Around, While, For, Try, ExceptAs, Finally, entry_of, IsAround, AllHaveLabels, SameLength, ClausesSameLength, ContextsAreClosed}
use Rattle.mon_compile.proofs.Labels.{body_carries, clauses_carry, guarded_carries}
use Rattle.mon_compile.proofs.ContextDepths.{same_length}
use Rattle.mon_compile.proofs.StatementDepths.{clauses_length, closed_entry}

pub all_have_labels : AllHaveLabels
all_have_labels locals body = record {
  block = λ g. body_carries g locals body;
  guarded_block = λ clauses g. guarded_carries g locals body clauses;
}

moved_label : (e : Around) → IsAround e → (c : Context) → Closed c → (g : Label → Label) → Fixes g → (l : Label) → moved_entry g (entry_of e c l) ≡ entry_of e c (g l)
moved_label (While x) i c k g fix l = refl
moved_label (For x) i c k g fix l = refl
moved_label Try i c k g fix l = refl
moved_label (ExceptAs n) i c k g fix l = refl
moved_label (Finally last) i c k g fix l = closed_entry last i c k g fix l

pub same_length_inside : SameLength
same_length_inside a h e i c k n at = same_length a h c k (entry_of e c) (moved_label e i c k) n at

pub same_length_of_clauses : ClausesSameLength
same_length_of_clauses locals clauses c k n at = clauses_length (map (handler_code locals) clauses) (λ g. clauses_carry g locals clauses) c k n at

pub contexts_are_closed : ContextsAreClosed
contexts_are_closed = record {
  outermost = λ g fix. refl;
  inner = λ c k. record {
    around = λ e i n g fix. ap (λ (x : Entry). x ∷ moved_context g c) (moved_label e i c k g fix (At n) ∙ ap (entry_of e c) (fix n)) ∙ ap (λ (x : Context). entry_of e c (At n) ∷ x) (k g fix);
    except = λ g fix. ap (λ (x : Context). Except ∷ x) (k g fix);
    raised = λ g fix. ap (λ (x : Context). Raised ∷ x) (k g fix);
    returning = λ g fix. ap (λ (x : Context). Returning ∷ x) (k g fix);
  };
}
