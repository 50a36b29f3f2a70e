-- Walks over the locations, and the words beside them.
use Rattle.std.proofs.Common.{◌≡◌, ℕ, suc, ◌+◌, ◌/◌, ◌%◌, ◌<◌, ◌≤◌, ◌-◌, ◌++◌, Bool, true, false, cond, map, append_assoc, length-append, List, [], ◌∷◌, length, get_or, set, Some, slice_get, refl, sym, ap, ◌∙◌, subst, arith, length-set, get_or-set_same, get_or-set_other}
use mathlib.Core.Logic.{dite}
use native.Mathlib.Decide.{ℕ_discrete, dec_le}
use Rattle.mon_words.specs.Words.{cell_of, normal}
use Rattle.mon_words.specs.History.{no_cell, cell_at}
use Rattle.mon_words.specs.Halted.{Halt, read_also, rewritten, with_global, with_callbacks}
use Rattle.mon_words.specs.declared.history.Cell.{Cell}
use Rattle.mon_words.specs.declared.history.Board.{Board}
use Rattle.mon_instrument.proofs.Chosen.{chosen_same, chosen_more, chosen_none, chosen_one, chosen_part, same_cell}
use Rattle.mon_history.specs.Configuration.{Configuration}
use Rattle.mon_code.specs.declared.program.Location.{Location}
use Rattle.std.proofs.lemmas.Option.{slice_get-get_or}
use Rattle.mon_code.specs.declared.program.Code.{Code}
use Rattle.mon_code.specs.Programs.{Parts}
use Rattle.mon_code.specs.Checked.{IsChecked}
use Rattle.mon_code.specs.declared.site.Site.{Site}
use Rattle.mon_code.specs.Sites.{site_at, site_in, sites_of}
use Rattle.mon_instrument.specs.Codes.{start}
use Rattle.mon_instrument.proofs.Codes.{starts, site_read}
use Rattle.mon_history.specs.Stands.{globals, callbacks}
use Rattle.mon_instrument.specs.Due.{chosen, differs, walked_also, due_want, due_live, Walked, AllNormal, Worded, IsLaidOut, due_cell, walked_cell}

nil_end : {A : Type 0} (xs : List A) → xs ++ [] ≡ xs
nil_end [] = refl
nil_end (x ∷ xs) = ap (λ z. x ∷ z) (nil_end xs)

assoc : {A : Type 0} (xs ys zs : List A) → (xs ++ ys) ++ zs ≡ xs ++ (ys ++ zs)
assoc [] ys zs = refl
assoc (x ∷ xs) ys zs = ap (λ w. x ∷ w) (assoc xs ys zs)

both_normal : (xs ys : List (ℕ × ℕ)) → AllNormal xs → AllNormal ys → AllNormal (xs ++ ys)
both_normal [] ys h g = g
both_normal (x ∷ xs) ys h g = (h.0, both_normal xs ys h.1 g)

longer : (xs ys : List (ℕ × ℕ)) → length (xs ++ ys) ≡ length xs + length ys
longer xs ys = length-append xs ys

map_both : (xs ys : List (ℕ × ℕ)) → map (λ (w : ℕ × ℕ). w.0) (xs ++ ys) ≡ map (λ (w : ℕ × ℕ). w.0) xs ++ map (λ (w : ℕ × ℕ). w.0) ys
map_both [] ys = refl
map_both (x ∷ xs) ys = ap (λ z. x.0 ∷ z) (map_both xs ys)

-- which cells are to differ
abbrev pub alters : (ℕ → Cell → Cell) → Board → ℕ → Bool
alters f b l = differs (f l (cell_at b l)) (cell_at b l)

-- nothing was done
idle : (h : Halt) (rs : List ℕ) → rs ≡ [] → h ≡ record h { written = h.written ++ []; tally = walked_also h.tally rs 0 }
idle h rs e =
    let a = sym (nil_end h.written) in let b : h.tally.reads ≡ h.tally.reads ++ rs = sym (nil_end h.tally.reads) ∙ ap (λ z. h.tally.reads ++ z) (sym e) in
    let c : h.tally.rewrites ≡ h.tally.rewrites + 0 = omega arith in
    λ i. record h { written = a i; tally = record h.tally { reads = b i; rewrites = c i } }

-- no location
pub walked_none : (f : ℕ → Cell → Cell) (test : ℕ → Bool) (from to : ℕ) (h : Halt) → to ≤ from → Walked f test from to h h
walked_none f test from to h e = record {
  cells = h.board.cells;
  more = [];
  is = idle h (chosen test from (to - from)) (chosen_none test from to e);
  wide = refl;
  inside = λ l a b. absurd (omega arith);
  below = λ l a. refl;
  above = λ l a. refl;
  normals = tt;
  stored = sym (chosen_none (alters f h.board) from to e);
}

-- one location was read, whose word was in order
pub walked_kept : (f : ℕ → Cell → Cell) (l m : ℕ) (h g : Halt) → m ≡ suc l → f l (cell_at h.board l) ≡ cell_at h.board l → g ≡ read_also h l → Walked f (λ _. true) l m h g
walked_kept f l m h g n e is = record {
  cells = h.board.cells;
  more = [];
  is = is ∙ (let a = sym (nil_end h.written) in let b = sym (chosen_one (λ _. true) l m n) in let c : h.tally.rewrites ≡ h.tally.rewrites + 0 = omega arith in
      λ i. record h { written = a i; tally = record h.tally { reads = h.tally.reads ++ b i; rewrites = c i } });
  wide = refl;
  inside = λ k a b. let q : k ≡ l = omega arith in subst (λ z. get_or h.board.cells z no_cell ≡ f z (get_or h.board.cells z no_cell)) (sym q) (sym e);
  below = λ k a. refl;
  above = λ k a. refl;
  normals = tt;
  stored = sym (chosen_one (alters f h.board) l m n ∙ ap (λ z. cond z (l ∷ []) []) (same_cell (f l (cell_at h.board l)) (cell_at h.board l) e));
}

-- one location was read, whose word was stored
pub walked_one : (f : ℕ → Cell → Cell) (l m word : ℕ) (h h1 g : Halt) → m ≡ suc l → l < length h.board.cells → f l (cell_at h.board l) ≡ cell_of word → differs (f l (cell_at h.board l)) (cell_at h.board l) ≡ true → normal word ≡ word
    → h1 ≡ read_also h l → g ≡ rewritten h1 l word → Walked f (λ _. true) l m h g
walked_one f l m word h h1 g n low e other normally old is = record {
  cells = set h.board.cells l (cell_of word);
  more = (l, word) ∷ [];
  is = is ∙ (ap (λ (z : Halt). rewritten z l word) old
      ∙ (let b = sym (chosen_one (λ _. true) l m n) in λ i. record h { board = record h.board { cells = set h.board.cells l (cell_of word) }; written = h.written ++ (l, word) ∷ []; tally = record h.tally { reads = h.tally.reads ++ b i; rewrites = h.tally.rewrites + 1 } }));
  wide = length-set h.board.cells l (cell_of word);
  inside = λ k a b. let q : k ≡ l = omega arith in
      subst (λ z. get_or (set h.board.cells l (cell_of word)) z no_cell ≡ f z (get_or h.board.cells z no_cell)) (sym q) (get_or-set_same h.board.cells l (cell_of word) no_cell low ∙ sym e);
  below = λ k a. get_or-set_other h.board.cells l k (cell_of word) no_cell (λ q. absurd (omega arith));
  above = λ k a. get_or-set_other h.board.cells l k (cell_of word) no_cell (λ q. absurd (omega arith));
  normals = (normally, tt);
  stored = sym (chosen_one (alters f h.board) l m n ∙ ap (λ z. cond z (l ∷ []) []) other);
}

cells_of : (f : ℕ → Cell → Cell) (test : ℕ → Bool) (from to : ℕ) (h g : Halt) (w : Walked f test from to h g) → g.board.cells ≡ w.cells
cells_of f test from to h g w = ap (λ (z : Halt). z.board.cells) w.is

-- the locations of two walks, one behind the other
pub walked_more : (f : ℕ → Cell → Cell) (test : ℕ → Bool) (a b c : ℕ) (h g k : Halt) → a ≤ b → b ≤ c → Walked f test a b h g → Walked f test b c g k → Walked f test a c h k
walked_more f test a b c h g k p q v w =
    let is_g : (l : ℕ) → cell_at g.board l ≡ get_or v.cells l no_cell = λ l. ap (λ (z : List Cell). get_or z l no_cell) (cells_of f test a b h g v) in
    let up : (l : ℕ) → b ≤ l → cell_at g.board l ≡ cell_at h.board l = λ l u. is_g l ∙ v.above l u in
    let reads : (h.tally.reads ++ chosen test a (b - a)) ++ chosen test b (c - b) ≡ h.tally.reads ++ chosen test a (c - a) =
    append_assoc h.tally.reads (chosen test a (b - a)) (chosen test b (c - b)) ∙ ap (λ z. h.tally.reads ++ z) (sym (chosen_more test a b c p q)) in
    let rewrites : h.tally.rewrites + length v.more + length w.more ≡ h.tally.rewrites + length (v.more ++ w.more) = let z = longer v.more w.more in omega arith in
    let written = assoc h.written v.more w.more in record {
      cells = w.cells;
      more = v.more ++ w.more;
      is = w.is ∙ (ap (λ (z : Halt). record z { board = record z.board { cells = w.cells }; written = z.written ++ w.more; tally = walked_also z.tally (chosen test b (c - b)) (length w.more) }) v.is
          ∙ (λ i. record h { board = record h.board { cells = w.cells }; written = written i; tally = record h.tally { reads = reads i; rewrites = rewrites i } }));
      wide = w.wide ∙ (ap length (cells_of f test a b h g v) ∙ v.wide);
      inside = λ l low high. dite (dec_le b l)
          (λ u. w.inside l u high ∙ ap (f l) (up l u))
          (λ down. w.below l (omega arith) ∙ (is_g l ∙ v.inside l low (omega arith)));
      below = λ l low. w.below l (omega arith) ∙ (is_g l ∙ v.below l low);
      above = λ l u. w.above l u ∙ (is_g l ∙ v.above l (omega arith));
      normals = both_normal v.more w.more v.normals w.normals;
      stored = map_both v.more w.more
          ∙ ((λ i. v.stored i ++ (w.stored ∙ chosen_same (alters f g.board) (alters f h.board) b (c - b) (λ l low _. ap (λ (z : Cell). differs (f l z) z) (up l low))) i)
          ∙ sym (chosen_more (alters f h.board) a b c p q));
    }

-- the same walk under another name of its changes
pub walked_as : (f g : ℕ → Cell → Cell) (test : ℕ → Bool) (a b : ℕ) (h k : Halt) → a ≤ b → ((l : ℕ) → a ≤ l → l < b → f l (cell_at h.board l) ≡ g l (cell_at h.board l)) → Walked f test a b h k → Walked g test a b h k
walked_as f g test a b h k p e w = record {
  cells = w.cells;
  more = w.more;
  is = w.is;
  wide = w.wide;
  inside = λ l low high. w.inside l low high ∙ e l low high;
  below = w.below;
  above = w.above;
  normals = w.normals;
  stored = w.stored ∙ chosen_same (alters f h.board) (alters g h.board) a (b - a) (λ l low high. ap (λ (z : Cell). differs z (cell_at h.board l)) (e l low (omega arith)));
}

-- a walk over a part, seen as one over the whole that reads and changes nothing elsewhere
pub walked_part : (f g : ℕ → Cell → Cell) (s t : ℕ → Bool) (a b n : ℕ) (h k : Halt) → a ≤ b → b ≤ n → ((l : ℕ) → a ≤ l → l < b → f l (cell_at h.board l) ≡ g l (cell_at h.board l))
    → ((l : ℕ) → l < n → (a ≤ l → l < b → ⊥) → g l (cell_at h.board l) ≡ cell_at h.board l) → ((l : ℕ) → a ≤ l → l < b → s l ≡ t l) → ((l : ℕ) → l < n → (a ≤ l → l < b → ⊥) → t l ≡ false)
    → Walked f s a b h k → Walked g t 0 n h k
walked_part f g s t a b n h k low fits e stay read unread w = record {
  cells = w.cells;
  more = w.more;
  is = w.is ∙ ap (λ (z : List ℕ). record h { board = record h.board { cells = w.cells }; written = h.written ++ w.more; tally = walked_also h.tally z (length w.more) }) (chosen_part s t a b n fits read unread low);
  wide = w.wide;
  inside = λ l _ high. dite (dec_le a l)
      (λ up. dite (dec_le (suc l) b)
      (λ in_it. w.inside l up in_it ∙ e l up in_it)
      (λ out. w.above l (omega arith) ∙ sym (stay l high (λ _ y. absurd (omega arith)))))
      (λ down. w.below l (omega arith) ∙ sym (stay l high (λ x _. absurd (omega arith))));
  below = λ l low. absurd (omega arith);
  above = λ l up. w.above l (omega arith);
  normals = w.normals;
  stored = w.stored ∙ chosen_part (alters f h.board) (alters g h.board) a b n fits (λ l x y. ap (λ (z : Cell). differs z (cell_at h.board l)) (e l x y)) (λ l x out. same_cell (g l (cell_at h.board l)) (cell_at h.board l) (stay l x out)) low;
}

-- no location was reached
pub walked_nowhere : (g : ℕ → Cell → Cell) (t : ℕ → Bool) (n : ℕ) (h : Halt) → ((l : ℕ) (c : Cell) → g l c ≡ c) → ((l : ℕ) → t l ≡ false) → Walked g t 0 n h h
walked_nowhere g t n h stay unread = walked_part g g t t 0 0 n h h (omega arith) (omega arith) (λ _ _ _. refl) (λ l _ _. stay l (cell_at h.board l)) (λ _ _ _. refl) (λ l _ _. unread l) (walked_none g t 0 0 h (omega arith))

-- a walk keeps what a board is laid out for
pub laid_on : (sites : List Site) (f : ℕ → Cell → Cell) (test : ℕ → Bool) (a b : ℕ) (h g : Halt) → ((l : ℕ) (c : Cell) → (f l c).base ≡ c.base) → IsLaidOut sites h.board → Walked f test a b h g → IsLaidOut sites g.board
laid_on sites f test a b h g keeps o w =
    let is_g : (l : ℕ) → cell_at g.board l ≡ get_or w.cells l no_cell = λ l. ap (λ (z : List Cell). get_or z l no_cell) (cells_of f test a b h g w) in
    let same : (l : ℕ) → (cell_at g.board l).base ≡ (cell_at h.board l).base = λ l. ap (λ (z : Cell). z.base) (is_g l) ∙ dite (dec_le a l)
    (λ up. dite (dec_le (suc l) b) (λ i. ap (λ (z : Cell). z.base) (w.inside l up i) ∙ keeps l (cell_at h.board l)) (λ j. ap (λ (z : Cell). z.base) (w.above l (omega arith))))
    (λ down. ap (λ (z : Cell). z.base) (w.below l (omega arith))) in record {
      wide = ap length (cells_of f test a b h g w) ∙ (w.wide ∙ o.wide);
      six = ap (λ (z : Halt). length z.board.callbacks) w.is ∙ o.six;
      bases = λ l low. same l ∙ o.bases l low;
    }

-- the global word and the callback words
pub worded_none : (C : Configuration) (word : ℕ) (h g : Halt) → word ≡ globals C → g ≡ with_global h word → Worded C 0 h g
worded_none C word h g e is = record {
  words = h.board.callbacks;
  is = is ∙ ap (λ z. with_global h z) e;
  six = refl;
  callbacks_are = λ t low. absurd (omega arith);
}

pub worded_more : (C : Configuration) (n m word : ℕ) (h g k : Halt) → m ≡ suc n → n < 6 → length h.board.callbacks ≡ 6 → word ≡ callbacks C n → k ≡ with_callbacks g n word → Worded C n h g → Worded C m h k
worded_more C n m word h g k e low six is new w = record {
  words = set w.words n word;
  is = new ∙ ap (λ (z : Halt). with_callbacks z n word) w.is;
  six = length-set w.words n word ∙ w.six;
  callbacks_are = λ t l. dite (ℕ_discrete t n)
      (λ q. subst (λ z. get_or (set w.words n word) z 0 ≡ callbacks C z) (sym q) (get_or-set_same w.words n word 0 (omega (arith, w.six)) ∙ is))
      (λ ne. get_or-set_other w.words n t word 0 ne ∙ w.callbacks_are t (omega arith));
}

-- the word that is due for a cell which another word shows
pub due_is : (C : Configuration) (code index : ℕ) (location : Location) (all : Bool) (word due want : ℕ) (site : Site) (c : Cell) → cell_of word ≡ c → site ≡ site_in code index location (word / 256 % 256)
    → want ≡ due_want C site → cell_of due ≡ record (cell_of word) { want = want; live = due_live all (cell_of word).live } → cell_of due ≡ due_cell C (site_in code index location c.base) all c
due_is C code index location all word due want site c shows s e is =
    is ∙ (ap (λ w. record (cell_of word) { want = w; live = due_live all (cell_of word).live }) (e ∙ ap (due_want C) s)
    ∙ ap (λ (z : Cell). due_cell C (site_in code index location z.base) all z) shows)

-- a word whose bits from 16 on and whose base are those of another has its cell
pub same_word : (m n : ℕ) → (cell_of m).base ≡ (cell_of n).base → m / 65536 ≡ n / 65536 → cell_of m ≡ cell_of n
same_word m n b e =
    let w : m / 65536 % 16777216 ≡ n / 65536 % 16777216 = ap (λ z. z % 16777216) e in
    let l : m / 1099511627776 ≡ n / 1099511627776 = omega arith in
    λ i. record { base = b i; want = w i; live = l i }

-- one location more of a code
pub code_more : (p : Parts) (C : Configuration) (all : Bool) (k at : ℕ) (code : Code) (items : List Location) (d : Location) (h0 h1 h2 : Halt) → IsChecked p → slice_get p.codes k ≡ Some code → items ≡ code.locations → at < length items
    → code.first + length code.locations ≤ length p.bases → IsLaidOut (sites_of p) h0.board → Walked (walked_cell C (sites_of p) all) (λ _. true) (start p.codes k) (start p.codes k + at) h0 h1
    → Walked (λ j z. due_cell C (site_in k at (get_or items at d) z.base) all z) (λ _. true) (code.first + at) (code.first + at + 1) h1 h2
    → Walked (walked_cell C (sites_of p) all) (λ _. true) (start p.codes k) (start p.codes k + (at + 1)) h0 h2
code_more p C all k at code items d h0 h1 h2 is found same n inside laid w v =
    let s : code.first ≡ start p.codes k = let t = starts p.bases 0 p.codes k code is.codes found in omega arith in
    let long = ap length same in
    let l : slice_get code.locations at ≡ Some (get_or items at d) = ap (λ (z : List Location). slice_get z at) (sym same) ∙ slice_get-get_or items at d n in
    let o = laid_on (sites_of p) (walked_cell C (sites_of p) all) (λ _. true) (start p.codes k) (start p.codes k + at) h0 h1 (λ _ _. refl) laid w in
    let r = site_read p k code at (get_or items at d) h1.board is found l (omega arith) o in
    let a : code.first + at ≡ start p.codes k + at = omega arith in
    let b : code.first + at + 1 ≡ start p.codes k + (at + 1) = omega arith in
    let u : Walked (walked_cell C (sites_of p) all) (λ _. true) (code.first + at) (code.first + at + 1) h1 h2 =
    walked_as (λ j z. due_cell C (site_in k at (get_or items at d) z.base) all z) (walked_cell C (sites_of p) all) (λ _. true) (code.first + at) (code.first + at + 1) h1 h2 (omega arith)
    (λ m low high. let q : m ≡ code.first + at = omega arith in
    subst (λ z. due_cell C (site_in k at (get_or items at d) (cell_at h1.board z).base) all (cell_at h1.board z) ≡ due_cell C (site_at (sites_of p) z) all (cell_at h1.board z)) (sym q)
    (ap (λ x. due_cell C x all (cell_at h1.board (code.first + at))) r)) v in
    walked_more (walked_cell C (sites_of p) all) (λ _. true) (start p.codes k) (start p.codes k + at) (start p.codes k + (at + 1)) h0 h1 h2 (omega arith) (omega arith) w
    (subst (λ (z : ℕ × ℕ). Walked (walked_cell C (sites_of p) all) (λ _. true) z.0 z.1 h1 h2) (λ i. (a i, b i)) u)
