-- Every text is read as one thing: the items of a module each have a tree, or there is a first one that has none.
use Rattle.std.proofs.Common.{◌≡◌, ℕ, ◌<◌, ◌≤◌, List, [], ◌∷◌, length, refl, sym, ap, ◌∙◌, inl, inr}
use Rattle.std.proofs.lemmas.Bool.{cases_lt}
use Rattle.std.specs.Prelude.{◌⊎◌, Option, Some, None, Ok, Err}
use Rattle.mon_lexer.specs.Top.{lexfault, spelled}
use Rattle.mon_lexer.specs.declared.token.Token.{Token}
use Rattle.mon_lexer.specs.declared.token.Item.{Item}
use Rattle.mon_lexer.specs.declared.token.LexFault.{LexFault}
use Rattle.mon_parser.specs.declared.parser.SyntaxFault.TheVariants as fault
use Rattle.mon_trees.specs.declared.tree.Module.{Module}
use Rattle.mon_trees.specs.declared.tree.ModuleItem.{ModuleItem}
use Rattle.mon_parser.specs.Derives.{HasTree, DeriveAll, FirstWithout}
use Rattle.mon_parser.specs.Statements.{read_item}
use Rattle.mon_parser.specs.Texts.{Reading, ReadAs, Misspelled, Underived, Parsed}
use Rattle.mon_parser.specs.Tokens.{first_line, most_open}
use Rattle.mon_parser.proofs.Modules.{parsed_once}
use Rattle.mon_parser.proofs.Trees.{read_derives, no_reading, some_left, too_open}

within_brackets : (tokens : List Token) → most_open 0 tokens ≤ 100 → HasTree tokens ⊎ (¬ HasTree tokens)
within_brackets tokens h = was_read (read_item (length tokens) tokens) refl
  where
    was_read : (answer : Option (ModuleItem × List Token)) → read_item (length tokens) tokens ≡ answer → HasTree tokens ⊎ (¬ HasTree tokens)
    was_read None e = inr (no_reading tokens e)
    was_read (Some (tree, [])) e = inl (tree, read_derives tokens tree h e)
    was_read (Some (tree, t ∷ rest)) e = inr (some_left tokens tree t rest e)

has_or_not : (tokens : List Token) → HasTree tokens ⊎ (¬ HasTree tokens)
has_or_not tokens = by_brackets (cases_lt 100 (most_open 0 tokens))
  where
    by_brackets : (100 < most_open 0 tokens) ⊎ (most_open 0 tokens ≤ 100) → HasTree tokens ⊎ (¬ HasTree tokens)
    by_brackets (inl h) = inr (too_open tokens h)
    by_brackets (inr h) = within_brackets tokens h

abbrev Trees : List Item → Type 0
Trees items = (trees : List ModuleItem) × DeriveAll items trees

abbrev Stops : List Item → Type 0
Stops items = (line : ℕ) × FirstWithout items line

later : (item : Item) (items : List Item) → HasTree item.tokens → Stops items → Stops (item ∷ items)
later item items has stops =
    let f = stops.1 in (
      stops.0,
      record {
        before = item ∷ f.before;
        item = f.item;
        after = f.after;
        place = ap (λ z. item ∷ z) f.place;
        trees = has.0 ∷ f.trees;
        derive = (has.1, f.derive);
        none = f.none;
        begins = f.begins;
      },
    )

all_or_first : (items : List Item) → Trees items ⊎ Stops items
all_or_first [] = inl ([], tt)
all_or_first (item ∷ items) = here (has_or_not item.tokens) (all_or_first items)
  where
    here : HasTree item.tokens ⊎ (¬ HasTree item.tokens) → Trees items ⊎ Stops items → Trees (item ∷ items) ⊎ Stops (item ∷ items)
    here (inr none) rest = inr (first_line item.tokens, record { before = []; item = item; after = items; place = refl; trees = []; derive = tt; none = none; begins = refl })
    here (inl has) (inl more) = inl (has.0 ∷ more.0, (has.1, more.1))
    here (inl has) (inr stops) = inr (later item items has stops)

pub every_text_read : (bytes : List ℕ) → (reading : Reading) × ReadAs bytes reading
every_text_read bytes = by_fault (lexfault bytes) refl
  where
    spelled_so : lexfault bytes ≡ None → Trees (spelled bytes) ⊎ Stops (spelled bytes) → (reading : Reading) × ReadAs bytes reading
    spelled_so e (inl all) = (Parsed (record { items = all.0 }), (e, all.1))
    spelled_so e (inr stops) = (Underived stops.0, (e, stops.1))

    by_fault : (f : Option LexFault) → lexfault bytes ≡ f → (reading : Reading) × ReadAs bytes reading
    by_fault (Some f) e = (Misspelled f, e)
    by_fault None e = spelled_so e (all_or_first (spelled bytes))

no_fault : (f : LexFault) (o : Option LexFault) → o ≡ Some f → o ≡ None → ⊥
no_fault f o e n = let h : ◌≡◌ {A = Option LexFault} (Some f) None = sym e ∙ n in cc

fault_of : (f g : LexFault) (o : Option LexFault) → o ≡ Some f → o ≡ Some g → f ≡ g
fault_of f g o e h = let k : Some f ≡ Some g = sym e ∙ h in cc

one_tree : (bytes : List ℕ) (m n : Module) → DeriveAll (spelled bytes) m.items → DeriveAll (spelled bytes) n.items → m ≡ n
one_tree bytes m n x y = let e = parsed_once (spelled bytes) (Ok m) (Ok n) x y (λ h. cc) (λ h. cc) in cc

one_line : (bytes : List ℕ) (l k : ℕ) → FirstWithout (spelled bytes) l → FirstWithout (spelled bytes) k → l ≡ k
one_line bytes l k x y = let e = parsed_once (spelled bytes) (Err (fault.Syntax l)) (Err (fault.Syntax k)) x y (λ h. cc) (λ h. cc) in cc

not_both : (bytes : List ℕ) (m : Module) (l : ℕ) → DeriveAll (spelled bytes) m.items → FirstWithout (spelled bytes) l → ⊥
not_both bytes m l x y = let e = parsed_once (spelled bytes) (Ok m) (Err (fault.Syntax l)) x y (λ h. cc) (λ h. cc) in cc

pub text_read_once : (bytes : List ℕ) (one other : Reading) → ReadAs bytes one → ReadAs bytes other → one ≡ other
text_read_once bytes (Misspelled f) (Misspelled g) x y = ap Misspelled (fault_of f g (lexfault bytes) x y)
text_read_once bytes (Misspelled f) (Underived l) x y = absurd (no_fault f (lexfault bytes) x y.0)
text_read_once bytes (Misspelled f) (Parsed m) x y = absurd (no_fault f (lexfault bytes) x y.0)
text_read_once bytes (Underived l) (Misspelled f) x y = absurd (no_fault f (lexfault bytes) y x.0)
text_read_once bytes (Underived l) (Underived k) x y = ap Underived (one_line bytes l k x.1 y.1)
text_read_once bytes (Underived l) (Parsed m) x y = absurd (not_both bytes m l y.1 x.1)
text_read_once bytes (Parsed m) (Misspelled f) x y = absurd (no_fault f (lexfault bytes) y x.0)
text_read_once bytes (Parsed m) (Underived l) x y = absurd (not_both bytes m l x.1 y.1)
text_read_once bytes (Parsed m) (Parsed n) x y = ap Parsed (one_tree bytes m n x.1 y.1)
