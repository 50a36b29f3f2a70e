use Rattle.std.proofs.Common.{◌≡◌, ℕ, ◌+◌, ◌-◌, ◌/◌, ◌%◌, ◌<◌, ◌≤◌, ◌∙◌, List, [], ◌∷◌, ◌++◌, length, map, get_or, Bool, true, false, cond, ltb, lit≤, refl, sym, ap, arith}
use Rattle.std.proofs.lemmas.List.{get_or-map, length-map, map-append}
use Rattle.mon_words.specs.Tallies.{no_tally}
use Rattle.mon_words.specs.declared.tally.Load.{Load}
use Rattle.mon_words.specs.declared.tally.Load.TheVariants.{Location as LoadOf, Callbacks}
use Rattle.mon_words.specs.Words.{cell_of, enabled_in, Allowed}
use Rattle.mon_words.specs.History.{cell_at, no_cell}
use Rattle.mon_words.specs.Told.{Told, Loads}
use Rattle.mon_words.specs.declared.history.Cell.{Cell}
use Rattle.mon_interp_tests.specs.declared.tests.Loaded.{Loaded}
use Rattle.mon_interp_tests.proofs.tests.LoudWordsHandle.load.Goals as goal

parts : (n m : ℕ) → m ≡ n - n % 256 + 128 → (m / 1099511627776 ≡ n / 1099511627776) × (m / 256 % 256 ≡ n / 256 % 256) × (m / 65536 % 16777216 ≡ n / 65536 % 16777216) × (m % 256 ≡ 128)
parts n m e = (omega arith, omega arith, omega arith, omega arith)

same_cell : (n m : ℕ) → m ≡ n - n % 256 + 128 → cell_of m ≡ cell_of n
same_cell n m e = let p = parts n m e in λ i. record { base = p.1 i; want = p.2 i; live = p.0 i }

at_most_three : (t u v : Bool) → cond t 3 (cond u 2 (cond v 1 0)) ≤ 3
at_most_three true u v = lit≤ tt
at_most_three false true v = lit≤ tt
at_most_three false false true = lit≤ tt
at_most_three false false false = lit≤ tt

-- the most instrumented opcode is allowed for every cell
loud : (c : Cell) (n m : ℕ) → m ≡ n - n % 256 + 128 → Allowed c (m % 256)
loud c n m e = (3, lit≤ tt, at_most_three (ltb 0 (enabled_in c 0)) (ltb 0 (enabled_in c 1)) (ltb 0 (enabled_in c 2)), (parts n m e).3)

abbrev load_of : Loaded → Load
load_of l = cond l.is_location (LoadOf l.number 0) (Callbacks l.number)

abbrev told_of : (words callbacks : List ℕ) → Bool → (polls polled : ℕ) → List Load → Told
told_of words callbacks attached polls polled loads = record { number = 0; first = record { global = 0; callbacks = callbacks; cells = map cell_of words }; seen = []; own = []; attached = attached; count = 0; tally = record no_tally { polls = polls; polled = polled; loads = loads } }

loads : (words callbacks : List ℕ) (attached : Bool) (polls polled : ℕ) (before after : List Loaded) (l n m : ℕ) → l < length words → n ≡ get_or words l n → m ≡ n - n % 256 + 128 → after ≡ before ++ record { is_location = true; number = l } ∷ [] → Loads (told_of words callbacks attached polls polled (map load_of before)) l m (told_of words callbacks attached polls polled (map load_of after))
loads words callbacks attached polls polled before after l n m within is made more =
    let cell : cell_at (record { global = 0; callbacks = callbacks; cells = map cell_of words }) l ≡ cell_of n = get_or-map cell_of words l n no_cell within ∙ ap cell_of (sym is) in
    let same : cell_of m ≡ cell_at (record { global = 0; callbacks = callbacks; cells = map cell_of words }) l = same_cell n m made ∙ sym cell in
    let counted : map load_of after ≡ map load_of before ++ LoadOf l 0 ∷ [] = ap (map load_of) more ∙ map-append load_of before (record { is_location = true; number = l } ∷ []) in
    record {
      extends = record { begins = record { more = []; is = refl }; quiet = refl; own = refl };
      rest = ap (told_of words callbacks attached polls polled) counted;
      shows = (same, loud (cell_at (record { global = 0; callbacks = callbacks; cells = map cell_of words }) l) n m made);
      base = ap (λ (c : Cell). c.base) same;
    }

pub returns-clause-told : goal.returns-clause-told
returns-clause-told g c =
    let words : List ℕ = c.args.self.now.words.items in
    loads words _ _ _ _ c.args.self.now.loads.items _ c.args.location c.index-word.result.now _ (omega (arith, length-map words cell_of, c.requires.within)) c.index-word.ensures (omega arith) c.note.ensures
