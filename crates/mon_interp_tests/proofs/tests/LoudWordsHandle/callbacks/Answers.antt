use Rattle.std.proofs.Common.{◌≡◌, ℕ, ◌∙◌, List, [], ◌∷◌, ◌++◌, map, Bool, false, cond, refl, ap}
use Rattle.std.proofs.lemmas.List.{map-append}
use Rattle.std.specs.Prelude.{slice_index}
use Rattle.mon_words.specs.Tallies.{no_tally}
use Rattle.mon_words.specs.Words.{cell_of}
use Rattle.mon_words.specs.Told.{Told, LoadsCallbacks}
use Rattle.mon_words.specs.declared.tally.Load.{Load}
use Rattle.mon_words.specs.declared.tally.Load.TheVariants.{Location as LoadOf, Callbacks}
use Rattle.mon_interp_tests.specs.declared.tests.Loaded.{Loaded}
use Rattle.mon_interp_tests.proofs.tests.LoudWordsHandle.callbacks.Goals as goal

abbrev load_of : Loaded → Load
load_of l = cond l.is_location (LoadOf l.number 0) (Callbacks l.number)

abbrev told_of : (words callbacks : List ℕ) → Bool → (polls polled : ℕ) → List Load → Told
told_of words callbacks attached polls polled loads = record { number = 0; first = record { global = 0; callbacks = callbacks; cells = map cell_of words }; seen = []; own = []; attached = attached; count = 0; tally = record no_tally { polls = polls; polled = polled; loads = loads } }

loads : (words callbacks : List ℕ) (attached : Bool) (polls polled : ℕ) (before after : List Loaded) (tool word : ℕ) → word ≡ slice_index callbacks tool → after ≡ before ++ record { is_location = false; number = tool } ∷ [] → LoadsCallbacks (told_of words callbacks attached polls polled (map load_of before)) tool word (told_of words callbacks attached polls polled (map load_of after))
loads words callbacks attached polls polled before after tool word is more =
    let counted : map load_of after ≡ map load_of before ++ Callbacks tool ∷ [] = ap (map load_of) more ∙ map-append load_of before (record { is_location = false; number = tool } ∷ []) in
    record {
      extends = record { begins = record { more = []; is = refl }; quiet = refl; own = refl };
      rest = ap (told_of words callbacks attached polls polled) counted;
      shows = is;
    }

pub returns-clause-told : goal.returns-clause-told
returns-clause-told g c = loads _ _ _ _ _ c.args.self.now.loads.items _ c.args.tool _ refl c.note.ensures
