-- What a handle tells over some calls of one stay.
use Rattle.std.proofs.Common.{◌≡◌, ℕ, ◌<◌, Bool, List, [], ◌∷◌, ◌++◌, length, refl, sym, ap, ◌∙◌, subst, append_assoc, append-nil}
use Rattle.mon_words.specs.Words.{mask_of}
use Rattle.mon_words.specs.History.{offs}
use Rattle.mon_words.specs.Tallies.{loaded_at, loaded_global, loaded_callbacks, disabled_once, tried}
use Rattle.mon_words.specs.Told.{Told, Extends, Grows, Loads, LoadsGlobal, LoadsCallbacks, Clears, Disables, Retires}
use Rattle.mon_words.specs.declared.history.Mark.{Mark}
use Rattle.mon_words.specs.declared.history.Mark.TheVariants.{Off}
use Rattle.mon_words.specs.declared.tally.Load.{Load}
use Rattle.mon_words.specs.declared.tally.Retirement.{Retirement}
use Rattle.mon_words.proofs.Histories.{begins_all, begins_more, begins_trans, puts-off, offs-same}

-- the rest of what is told
grown : (a b : Told) (s o : List Mark) (l : List Load) (r : List Retirement) (n : ℕ) → b ≡ record a { seen = s; own = o; tally = record a.tally { loads = l; retirements = r; disables = n } }
    → b ≡ record a { seen = b.seen; own = b.own; tally = record a.tally { loads = b.tally.loads; retirements = b.tally.retirements; disables = b.tally.disables } }
grown a b s o l r n e = e ∙ (λ i. let t : Told = sym e i in record a { seen = t.seen; own = t.own; tally = record a.tally { loads = t.tally.loads; retirements = t.tally.retirements; disables = t.tally.disables } })

pub grows_refl : (a : Told) → Grows a a []
grows_refl a = record { begins = begins_all a.seen; quiet = refl; owns = λ h. h; own = sym (append-nil a.own); rest = refl }

pub grows_trans : (a b c : Told) (xs ys : List Mark) → Grows a b xs → Grows b c ys → Grows a c (xs ++ ys)
grows_trans a b c xs ys h k = record {
  begins = begins_trans a.seen b.seen c.seen h.begins k.begins;
  quiet = k.quiet ∙ h.quiet;
  owns = λ o. k.owns (h.owns o);
  own = k.own ∙ (ap (λ z. z ++ ys) h.own ∙ append_assoc a.own xs ys);
  rest = k.rest ∙ ap (λ (t : Told). let s : Told = record t { seen = c.seen; own = c.own; tally = record t.tally { loads = c.tally.loads; retirements = c.tally.retirements; disables = c.tally.disables } } in s) h.rest;
}

-- nothing of its own was added
quietly : (a b : Told) (l : List Load) (r : List Retirement) → Extends a b.seen → b ≡ record a { seen = b.seen; tally = record a.tally { loads = l; retirements = r } } → Grows a b []
quietly a b l r x e =
    let own : b.own ≡ a.own = ap (λ (t : Told). t.own) e in
    let number : b.number ≡ a.number = ap (λ (t : Told). t.number) e in
    record {
      begins = x.begins;
      quiet = x.quiet;
      owns = λ h. ap (λ (n : ℕ). offs n b.seen) number ∙ (x.own ∙ sym own);
      own = own ∙ sym (append-nil a.own);
      rest = grown a b b.seen a.own l r a.tally.disables e;
    }

pub grows_load : (a b : Told) (location word : ℕ) → Loads a location word b → Grows a b []
grows_load a b location word l = quietly a b (loaded_at a.tally location (length b.seen)).loads a.tally.retirements l.extends l.rest

pub grows_global : (a b : Told) (word : ℕ) → LoadsGlobal a word b → Grows a b []
grows_global a b word l = quietly a b (loaded_global a.tally).loads a.tally.retirements l.extends l.rest

pub grows_callbacks : (a b : Told) (tool word : ℕ) → LoadsCallbacks a tool word b → Grows a b []
grows_callbacks a b tool word l = quietly a b (loaded_callbacks a.tally tool).loads a.tally.retirements l.extends l.rest

pub grows_retire : (a b : Told) (location old : ℕ) (answer : Bool) → Retires a location old answer b → Grows a b []
grows_retire a b location old answer r = quietly a b a.tally.loads (tried a.tally location old answer).retirements r.extends r.rest

pub grows_clear : (a b : Told) (location k word : ℕ) → Clears a location k word b → Grows a b (Off a.number location k ∷ [])
grows_clear a b location k word c =
    let m : Mark = Off a.number location k in
    let d : Told = record a { seen = c.before ++ m ∷ []; own = a.own ++ m ∷ []; tally = disabled_once a.tally } in
    let g : Grows a d (m ∷ []) = record {
      begins = begins_more a.seen c.before m c.extends.begins;
      quiet = puts-off c.before a.number location k ∙ c.extends.quiet;
      owns = λ h. offs-same a.number c.before location k ∙ ap (λ z. z ++ m ∷ []) c.extends.own;
      own = refl;
      rest = refl;
    } in
    subst (λ (t : Told). Grows a t (m ∷ [])) (sym c.rest) g

pub grows_disable : (a b : Told) (location k word : ℕ) → k < 24 → Disables a location (mask_of k) word b → Grows a b (Off a.number location k ∷ [])
grows_disable a b location k word low d = grows_clear a b location k word (d k low refl)
