-- The table begins as the rule asks.
use Rattle.std.proofs.Common.{◌≡◌, ℕ, zero, suc, ◌+◌, ◌<◌, List, [], ◌∷◌, ◌++◌, ◌-◌, drop, length, get_or, replicate, sym, refl, ap, ◌∙◌, subst, arith}
use mathlib.Core.Option.{some, some-injective, some-ne-none}
use lib.ListN.{get_elem?}
use Rattle.atomic_table.specs.Table.{opening}
use Rattle.mon_words.specs.Standing.{size, board_of, IsFirst, Stands}
use Rattle.mon_words.specs.declared.history.Board.{Board}
use Rattle.mon_words.proofs.Standing.{board-length, first_bases, first_stands}
use Rattle.mon_gate.specs.Sums.{once_below}
use Rattle.mon_gate.specs.Places.{board_place, claim_word}
use Rattle.mon_gate.specs.Rule.{first_board, SeatOk, Kept, starting}
use Rattle.mon_gate.specs.declared.view.View.{View}
use Rattle.mon_gate.specs.declared.view.Plan.{Plan}
use Rattle.mon_gate.proofs.Totals.{below_no}

zeros : (n : ℕ) (xs : List ℕ) (i : ℕ) → i < n → get_or (replicate n 0 ++ xs) i 0 ≡ 0
zeros zero xs i h = absurd (omega arith)
zeros (suc n) xs zero h = refl
zeros (suc n) xs (suc i) h = zeros n xs i (omega arith)

behind : (n : ℕ) (xs : List ℕ) (i : ℕ) → get_or (replicate n 0 ++ xs) (n + i) 0 ≡ get_or xs i 0
behind zero xs i = ap (λ (z : ℕ). get_or xs z 0) (omega arith)
behind (suc n) xs i = let e : suc n + i ≡ suc (n + i) = omega arith in ap (λ (z : ℕ). get_or (0 ∷ (replicate n 0 ++ xs)) z 0) e ∙ behind n xs i

dropped : (n : ℕ) (xs : List ℕ) → drop n (replicate n 0 ++ xs) ≡ xs
dropped zero xs = refl
dropped (suc n) xs = dropped n xs

pub zeros_length : (n : ℕ) (xs : List ℕ) → length (replicate n 0 ++ xs) ≡ n + length xs
zeros_length zero xs = omega arith
zeros_length (suc n) xs = omega (arith, zeros_length n xs)

pub board_is : (about : Plan) (first : List ℕ) → about.words.value.items ≡ replicate (board_place about.threads) 0 ++ first → first_board about ≡ board_of first
board_is about first e = ap (λ (z : List ℕ). board_of (drop (board_place about.threads) z)) e ∙ ap board_of (dropped (board_place about.threads) first)

module _ (about : Plan) (ws : List ℕ) where
  only_one : (v : View) (k : ℕ) (u : View) → get_elem? (v ∷ []) k ≡ some u → SeatOk about [] ws v → SeatOk about [] ws u
  only_one v zero u e ok = subst (SeatOk about [] ws) (some-injective v u e) ok
  only_one v (suc k) u e ok = absurd (some-ne-none u (sym e))

pub starts : (about : Plan) (first : List ℕ) → about.threads < 256 → about.words.value.items ≡ replicate (board_place about.threads) 0 ++ first → IsFirst first
    → Kept about (opening (replicate (board_place about.threads) 0 ++ first) [] (starting about))
starts about first few is lawful =
    let n : ℕ = board_place about.threads in let ws : List ℕ = replicate n 0 ++ first in let board = board_is about first is in let v : View = starting about in
    let enough = lawful.long in
    let long : length (first_board about).cells ≡ length first - 7 = ap (λ (b : Board). length b.cells) board ∙ board-length first in
    let one : claim_word ws ≡ 0 = zeros n first 1 (omega arith) in
    let ok : SeatOk about [] ws v = record {
      told = λ _. record { threads_are = refl; first_is = refl };
      begins = record { more = []; is = refl };
      works = λ h. absurd (omega arith);
      leads = λ _. record {
        marks = refl;
        all = λ h. absurd (omega arith);
        noted = λ j p e. absurd (some-ne-none p (sym e));
        right = λ j h. subst (λ (z : Board × ℕ). Stands z.0 j z.1) (λ i. (sym board i, sym (behind n first j) i)) (first_stands first lawful j (subst (λ (b : Board). j < size b) board h));
        clean = λ _. (refl, refl);
      };
      done = λ j e h. absurd (some-ne-none e (sym h));
    } in
    record {
      log = [];
      wide = omega (arith, zeros_length n first);
      few = few;
      gated = record { word = zeros n first 0 (omega arith); one = refl; calm = λ h. absurd (omega arith) };
      numbers = record { drawn = λ x. omega (arith, below_no x 0 (omega arith), ap (once_below x) one); counted = sym one; tickets = omega arith };
      counts = record { fresh = λ x a b. zeros n first (2 + x) (omega arith); none = λ x a. refl; high = λ x a. tt };
      first = first_bases (drop n about.words.value.items) (let e : length (drop n about.words.value.items) ≡ length first = ap (λ (z : List ℕ). length (drop n z)) is ∙ ap length (dropped n first) in omega arith);
      based = tt;
      placed = tt;
      seats = λ k u e. only_one about ws v k u e ok;
      longest = (0, v, refl, refl);
    }
