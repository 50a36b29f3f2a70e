use Rattle.std.proofs.Common.{◌≡◌, ℕ, ℤ, List, [], ◌∷◌, ◌++◌, Some, None, Bool, true, false, refl, sym, ap, ◌∙◌, lit<, lit≤}
use Rattle.std.specs.Prelude.{pos, IsTrue}
use Rattle.mon_values.specs.declared.value.Value as value
use Rattle.mon_values.specs.declared.value.Value.{Value}
use Rattle.mon_values.specs.declared.value.Value.TheOpen.{Value-F}
use Rattle.mon_values.specs.declared.value.Value.TheFolds.{fold-roll-Value}
use Rattle.mon_values.specs.declared.value.Value.TheViews as values
use Rattle.mon_code.specs.declared.program.Location.{Location}
use Rattle.mon_code.specs.declared.program.Code.{Code}
use Rattle.mon_code.specs.declared.program.ModuleConstant.{ModuleConstant}
use Rattle.mon_code.specs.Checked.{IsChecked, is_constant, constant_step, never}
use Rattle.mon_interp_tests.proofs.tests.program.Goals as goal

abbrev countdown : Code
countdown = record {
  parameters = 1;
  locals = (110 ∷ []) ∷ [];
  globals = [];
  constants = value.Int (pos 1) ∷ value.None ∷ [];
  first = 0;
  locations =
      record { argument = 0; line = None; is_marked = false; is_safe = true; handler = None; stack = 0; handling = 0 }
      ∷ record { argument = 0; line = Some 2; is_marked = true; is_safe = false; handler = None; stack = 0; handling = 0 }
      ∷ record { argument = 8; line = Some 2; is_marked = false; is_safe = false; handler = None; stack = 1; handling = 0 }
      ∷ record { argument = 0; line = Some 2; is_marked = false; is_safe = false; handler = None; stack = 0; handling = 0 }
      ∷ record { argument = 0; line = Some 2; is_marked = false; is_safe = false; handler = None; stack = 1; handling = 0 }
      ∷ record { argument = 1; line = Some 2; is_marked = false; is_safe = false; handler = None; stack = 2; handling = 0 }
      ∷ record { argument = 0; line = Some 2; is_marked = false; is_safe = false; handler = None; stack = 1; handling = 0 }
      ∷ record { argument = 1; line = None; is_marked = false; is_safe = true; handler = None; stack = 0; handling = 0 }
      ∷ record { argument = 0; line = Some 3; is_marked = true; is_safe = false; handler = None; stack = 0; handling = 0 }
      ∷ record { argument = 0; line = Some 3; is_marked = false; is_safe = false; handler = None; stack = 1; handling = 0 }
      ∷ record { argument = 1; line = None; is_marked = false; is_safe = false; handler = None; stack = 0; handling = 0 }
      ∷ record { argument = 0; line = None; is_marked = false; is_safe = false; handler = None; stack = 1; handling = 0 }
      ∷ [];
}

abbrev opcodes : List ℕ
opcodes = 1 ∷ 3 ∷ 22 ∷ 3 ∷ 2 ∷ 8 ∷ 4 ∷ 21 ∷ 3 ∷ 29 ∷ 2 ∷ 29 ∷ []

int_constant : (n : ℤ) → IsTrue (is_constant (value.Int n))
int_constant n = ap is_constant (sym (values.rolls-Int n)) ∙ fold-roll-Value Bool Bool constant_step never (Value-F.Int n)

none_constant : IsTrue (is_constant value.None)
none_constant = ap is_constant (sym values.rolls-None) ∙ fold-roll-Value Bool Bool constant_step never Value-F.None

right : (names : List (List ℕ)) (named : List ModuleConstant) (codes : List Code) (bases : List ℕ) (name : List ℕ) → names ≡ name ∷ [] → named ≡ [] → codes ≡ countdown ∷ [] → bases ≡ opcodes
    → IsChecked (record { names = names; constants = named; codes = codes; bases = bases })
right names named codes bases name n m c b = rw (n, m, c, b) record {
  named = refl;
  small = lit≤ tt;
  constants = tt;
  codes = (
    refl,
    record {
      parameters = lit≤ tt;
      locals = lit≤ tt;
      constants = (int_constant (pos 1), (none_constant, tt));
      start = refl;
      each = (record { fits = record { has = lit≤ tt; holds = lit≤ tt; next = λ _. refl; jumps = tt; caught = tt }; argument = lit< tt; stands = tt; behind = λ h. absurd (cc); safe = refl; marked = refl }, (record { fits = record { has = lit≤ tt; holds = lit≤ tt; next = λ _. refl; jumps = tt; caught = tt }; argument = lit< tt; stands = tt; behind = λ h. absurd (cc); safe = refl; marked = refl }, (record { fits = record { has = lit≤ tt; holds = lit≤ tt; next = λ _. refl; jumps = (lit< tt, refl); caught = tt }; argument = tt; stands = tt; behind = λ h. absurd (cc); safe = refl; marked = refl }, (record { fits = record { has = lit≤ tt; holds = lit≤ tt; next = λ _. refl; jumps = tt; caught = tt }; argument = lit< tt; stands = tt; behind = λ h. absurd (cc); safe = refl; marked = refl }, (record { fits = record { has = lit≤ tt; holds = lit≤ tt; next = λ _. refl; jumps = tt; caught = tt }; argument = lit< tt; stands = tt; behind = λ h. absurd (cc); safe = refl; marked = refl }, (record { fits = record { has = lit≤ tt; holds = lit≤ tt; next = λ _. refl; jumps = tt; caught = tt }; argument = lit< tt; stands = tt; behind = λ h. absurd (cc); safe = refl; marked = refl }, (record { fits = record { has = lit≤ tt; holds = lit≤ tt; next = λ _. refl; jumps = tt; caught = tt }; argument = lit< tt; stands = tt; behind = λ h. absurd (cc); safe = refl; marked = refl }, (record { fits = record { has = lit≤ tt; holds = lit≤ tt; next = λ h. absurd (cc); jumps = (lit< tt, refl); caught = tt }; argument = tt; stands = tt; behind = λ h. absurd (cc); safe = refl; marked = refl }, (record { fits = record { has = lit≤ tt; holds = lit≤ tt; next = λ _. refl; jumps = tt; caught = tt }; argument = lit< tt; stands = tt; behind = λ h. absurd (cc); safe = refl; marked = refl }, (record { fits = record { has = lit≤ tt; holds = lit≤ tt; next = λ h. absurd (cc); jumps = tt; caught = tt }; argument = tt; stands = tt; behind = λ h. absurd (cc); safe = refl; marked = refl }, (record { fits = record { has = lit≤ tt; holds = lit≤ tt; next = λ _. refl; jumps = tt; caught = tt }; argument = lit< tt; stands = tt; behind = λ h. absurd (cc); safe = refl; marked = refl }, (record { fits = record { has = lit≤ tt; holds = lit≤ tt; next = λ h. absurd (cc); jumps = tt; caught = tt }; argument = tt; stands = tt; behind = λ h. absurd (cc); safe = refl; marked = refl }, tt))))))))))));
    },
    refl,
  );
}

alone : (before after : List Code) (code : Code) → before ≡ [] → after ≡ before ++ code ∷ [] → after ≡ code ∷ []
alone before after code e h = cc

made : (locals globals : List (List ℕ)) (constants : List Value) (locations : List Location) → locals ≡ countdown.locals → globals ≡ [] → constants ≡ countdown.constants → locations ≡ countdown.locations → record { parameters = 1; locals = locals; globals = globals; constants = constants; first = 0; locations = locations } ≡ countdown
made locals globals constants locations l g k a = λ i. record { parameters = 1; locals = l i; globals = g i; constants = k i; first = 0; locations = a i }

pub new-requires : goal.new-requires
new-requires c =
    let code : record { parameters = 1; locals = c.in_ok-one_text.field-0; globals = c.globals.inside.items.items; constants = c.in_ok-constants.field-0; first = 0; locations = c.in_ok-locations.field-0 } ≡ countdown
    = made _ _ _ _ c.in_ok-one_text.ensures (c.globals.view_is ∙ c.new-globals.ensures) c.in_ok-constants.ensures c.in_ok-locations.ensures in
    let codes : c.push.new.self ≡ countdown ∷ [] = alone _ _ _ c.new-codes.ensures c.in_ok-push.ensures.ok ∙ ap (λ (code : Code). code ∷ []) code in
    right c.in_ok-names.names c.new-named.result c.push.new.self c.in_ok-bases.bases (960 ∷ []) c.in_ok-names.ensures c.new-named.ensures codes c.in_ok-bases.ensures
