-- A set that has known events alone is the set of its events.
use Rattle.std.proofs.Common.{◌≡◌, ℕ, zero, suc, ◌^◌, ◌<◌, Bool, eqb, refl, sym, ap, ◌∙◌, arith}
use Rattle.std.specs.Int.{bit_at}
use Rattle.std.proofs.lemmas.Nat.Bits.{same_from_bits_below, bit_at-lt}
use Rattle.mon_words.specs.Words.{is_bit}
use Rattle.mon_events.specs.Sets.{has, packed, set_of}
use Rattle.mon_events.specs.Events.{event_at}
use Rattle.mon_instrument.proofs.Numbers.{any_default, bit_back}
use Rattle.mon_events.proofs.Bits.{packed_lt, packed_bit}
use Rattle.std.proofs.Common.{length, get_or}
use Rattle.mon_history.specs.Registry.{set_reply}
use Rattle.mon_history.specs.Kept.{config_of, set_at, tool_at, no_tool, IsKept}
use Rattle.mon_history.specs.declared.calls.Reply.{Reply}
use Rattle.mon_history.specs.declared.config.Config.{Config}
use Rattle.mon_history.specs.declared.config.Tool.{Tool}
use Rattle.mon_events.specs.declared.set.EventSet.{EventSet}

tested : (a b : ℕ) → a < 2 → b < 2 → eqb a 1 ≡ eqb b 1 → a ≡ b
tested zero zero h g e = refl
tested zero (suc zero) h g e = absurd (cc)
tested (suc zero) zero h g e = absurd (cc)
tested (suc zero) (suc zero) h g e = refl
tested zero (suc (suc b)) h g e = absurd (omega arith)
tested (suc zero) (suc (suc b)) h g e = absurd (omega arith)
tested (suc (suc a)) b h g e = absurd (omega arith)

pub kept_set : (w : ℕ) → w < 2 ^ 17 → set_of (has w) ≡ w
kept_set w h = let f : ℕ → Bool = λ b. has w (event_at b) in
    same_from_bits_below 17 (packed f 17) w (packed_lt f 17) h (λ i l.
    tested (bit_at (packed f 17) i) (bit_at w i) (bit_at-lt (packed f 17) i) (bit_at-lt w i) (packed_bit f 17 i l ∙ ap (is_bit w) (bit_back i l)))

pub kept_wants : (codes : ℕ) (c : Config) (t k : ℕ) (d : Tool) → length c.tools ≡ 6 → t < 6 → k ≡ t → IsKept codes c → Reply.Set (get_or c.tools t d).wants ≡ set_reply ((config_of c).wants k)
kept_wants codes c t k d six low is small =
    let e : get_or c.tools t d ≡ tool_at c k = any_default c.tools t d no_tool (omega arith) ∙ ap (tool_at c) (sym is) in
    let w = kept_set (tool_at c k).wants.0 (small.tools k (omega arith)).wants in
    ap (λ (x : Tool). Reply.Set x.wants) e ∙ (λ i. Reply.Set (record { 0 = sym w i }))

pub kept_local : (codes : ℕ) (c : Config) (t k code : ℕ) (x : EventSet) → k ≡ t → IsKept codes c → x.0 ≡ set_at c.local code t → Reply.Set x ≡ set_reply ((config_of c).local k code)
kept_local codes c t k code x is small read =
    let w = kept_set (set_at c.local code k) (small.local code k) in
    let y : x.0 ≡ set_at c.local code k = read ∙ ap (set_at c.local code) (sym is) in
    λ i. Reply.Set (record { 0 = (y ∙ sym w) i })
