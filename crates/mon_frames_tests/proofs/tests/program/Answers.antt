use Rattle.std.proofs.Common.{◌≡◌, ℕ, List, [], ◌∷◌, ◌++◌, Some, None, Bool, true, false, refl, sym, ap, ◌∙◌, lit<, lit≤}
use Rattle.std.specs.Prelude.{IsTrue}
use Rattle.mon_values.specs.declared.value.Value as value
use Rattle.mon_values.specs.declared.value.Value.{Value}
use Rattle.mon_values.specs.declared.value.Value.TheOpen.{Value-F}
use Rattle.mon_values.specs.declared.value.Value.TheFolds.{fold-roll-Value}
use Rattle.mon_values.specs.declared.value.Value.TheViews as values
use Rattle.mon_code.specs.declared.program.Location.{Location}
use Rattle.mon_code.specs.declared.program.Code.{Code}
use Rattle.mon_code.specs.declared.program.ModuleConstant.{ModuleConstant}
use Rattle.mon_code.specs.Checked.{IsChecked, is_constant, constant_step, never}
use Rattle.mon_frames_tests.proofs.tests.program.Goals as goal

abbrev only_code : Code
only_code = record {
  parameters = 1;
  locals = (110 ∷ []) ∷ (109 ∷ []) ∷ [];
  globals = [];
  constants = value.None ∷ [];
  first = 0;
  locations =
      record { argument = 0; line = None; is_marked = false; is_safe = true; handler = None; stack = 0; handling = 0 }
      ∷ record { argument = 0; line = None; is_marked = false; is_safe = false; handler = Some (record { to = 2; stack = 0; handling = 0 }); stack = 0; handling = 0 }
      ∷ record { argument = 0; line = None; is_marked = false; is_safe = false; handler = None; stack = 1; handling = 0 }
      ∷ [];
}

abbrev opcodes : List ℕ
opcodes = 1 ∷ 2 ∷ 29 ∷ []

none_constant : IsTrue (is_constant value.None)
none_constant = ap is_constant (sym values.rolls-None) ∙ fold-roll-Value Bool Bool constant_step never Value-F.None

right : (names : List (List ℕ)) (named : List ModuleConstant) (codes : List Code) (bases : List ℕ) (name : List ℕ) → names ≡ name ∷ [] → named ≡ [] → codes ≡ only_code ∷ [] → bases ≡ opcodes
    → IsChecked (record { names = names; constants = named; codes = codes; bases = bases })
right names named codes bases name n m c b = rw (n, m, c, b) record {
  named = refl;
  small = lit≤ tt;
  constants = tt;
  codes = (
    refl,
    record {
      parameters = lit≤ tt;
      locals = lit≤ tt;
      constants = (none_constant, tt);
      start = refl;
      each = (record { fits = record { has = lit≤ tt; holds = lit≤ tt; next = λ _. refl; jumps = tt; caught = tt }; argument = lit< tt; stands = tt; behind = λ h. absurd (cc); safe = refl; marked = refl }, (record { fits = record { has = lit≤ tt; holds = lit≤ tt; next = λ _. refl; jumps = tt; caught = ((lit< tt, refl), lit≤ tt, lit≤ tt) }; argument = lit< tt; stands = tt; behind = λ h. absurd (cc); safe = refl; marked = refl }, (record { fits = record { has = lit≤ tt; holds = lit≤ tt; next = λ h. absurd (cc); jumps = tt; caught = tt }; argument = tt; stands = tt; behind = λ h. absurd (cc); safe = refl; marked = refl }, tt)));
    },
    refl,
  );
}

alone : (before after : List Code) (code : Code) → before ≡ [] → after ≡ before ++ code ∷ [] → after ≡ code ∷ []
alone before after code e h = cc

made : (locals globals : List (List ℕ)) (constants : List Value) (locations : List Location) → locals ≡ only_code.locals → globals ≡ [] → constants ≡ only_code.constants → locations ≡ only_code.locations → record { parameters = 1; locals = locals; globals = globals; constants = constants; first = 0; locations = locations } ≡ only_code
made locals globals constants locations l g k a = λ i. record { parameters = 1; locals = l i; globals = g i; constants = k i; first = 0; locations = a i }

pub new-requires : goal.new-requires
new-requires c =
    let code : record { parameters = 1; locals = c.in_ok-two_texts.field-0; globals = c.globals.inside.items.items; constants = c.in_ok-none_alone.field-0; first = 0; locations = c.in_ok-locations.field-0 } ≡ only_code
    = made _ _ _ _ c.in_ok-two_texts.ensures (c.globals.view_is ∙ c.new-globals.ensures) c.in_ok-none_alone.ensures c.in_ok-locations.ensures in
    let codes : c.push.new.self ≡ only_code ∷ [] = alone _ _ _ c.new-codes.ensures c.in_ok-push.ensures.ok ∙ ap (λ (code : Code). code ∷ []) code in
    right c.in_ok-names.names c.new-named.result c.push.new.self c.in_ok-bases.bases (102 ∷ []) c.in_ok-names.ensures c.new-named.ensures codes c.in_ok-bases.ensures
