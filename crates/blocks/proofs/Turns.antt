-- The first element of a block, and its lines one behind the other: as many turns as lines may still come are enough.
use mathlib.Core.Path.{◌≡◌, refl, ◌∙◌, sym, ap}
use mathlib.Core.Bool.{Bool, true, false, cond}
use mathlib.Core.List.{List, []}
use mathlib.Core.Option.{none}
use Prim.Native.Nat.{ℕ, zero, suc, ◌+◌, ◌-◌, ◌≤◌, ◌<◌}
use native.Mathlib.Omega.{arith}
use lib.IntN.{ℤ}
use lib.ListN.{length}
use lib.Signed.{lt_z}
use borrow.Author.Tests.{not-false, eq-eqb, ne_eqb}
use Rattle.scan.specs.rule.Loop.{Next, Again}
use Rattle.tags.specs.rule.Tag.{is_named}
use Rattle.tags.specs.declared.Held.{Held}
use Rattle.tags.specs.declared.Tag.{Tag}
use Rattle.tags.specs.declared.Tag.TheVariants as tag
use Rattle.pairs.specs.rule.Stand.{bare_of}
use Rattle.tokens.specs.declared.Fault.{Fault}
use Rattle.tokens.specs.rule.Gap.{fault}
use Rattle.values.specs.declared.Block as books
use Rattle.values.specs.declared.Listed.{Listed}
use Rattle.values.specs.declared.Listed.TheVariants as listing
use Rattle.values.specs.Block.{empty_block}
use Rattle.survey.specs.rule.Survey.{Amount, Range, Block}
use Rattle.survey.specs.rule.Width.{scaled}
use Rattle.reading.specs.rule.Result.{Result, Is, Not, bind, repeat}
use Rattle.reading.specs.rule.Least.{named, lower, least, judged}
use Rattle.reading.specs.rule.Values.{form_is, large, unlike_amounts, unlisted}
use Rattle.bridge.specs.Lowest.{never, Clear, clear}
use Rattle.bridge.specs.Values.{empty_kept}
use Rattle.elements.specs.declared.Open.{Open}
use Rattle.elements.specs.declared.Open.TheVariants as opened
use Rattle.elements.specs.Code.{open_of, read_of, blamed}
use Rattle.elements.proofs.Dues.{read_open, missed}
use Rattle.xml_reading.specs.rule.Word.{VALUES, VALUE, RANGE}
use Rattle.xml_reading.specs.rule.Open as rule
use Rattle.xml_reading.specs.rule.Open.{start, shut, within_element, due, misplaced}
use Rattle.xml_reading.specs.rule.Block.{pair_charges, range, lined, on_open, another_line}
use Rattle.xml_reading.specs.rule.Block as block
use Rattle.blocks.specs.Code.{block_of, range_block, counted_of, listed_of}
use Rattle.blocks.specs.Lines.{range_read, first_tag, block_read, lined_of, Lines, Standing, Went, Begun, Closed}
use Rattle.blocks.specs.declared.Lined.{Lined}
use Rattle.blocks.specs.declared.Lined.TheVariants as lining
use Rattle.blocks.proofs.Ranges.{range_kept}
use Rattle.blocks.proofs.Told.{told_count, told_cells}
use Rattle.elements.proofs.Tags.{tag_tells}
use Rattle.blocks.proofs.Heard.{range_told}
use Rattle.blocks.proofs.Steps.{kept_is, none_lines}

-- ---- a range with nothing at fault
pub record Sound (quantity : Bool) (a b : Amount) : Type 0 where
  pub from_form : form_is quantity a ≡ true
  pub to_form : form_is quantity b ≡ true
  pub alike : unlike_amounts a b ≡ false
  pub ordered : lt_z (scaled b) (scaled a) ≡ false
  pub from_fits : large quantity a ≡ false
  pub to_fits : large quantity b ≡ false

pub range_sound : (quantity : Bool) (a b : Amount) → Clear (pair_charges quantity a b) → Sound quantity a b
unfolding pair_charges
range_sound quantity a b (clear p (clear q (clear r (clear s (clear t (clear u v)))))) =
    let i = not-false (form_is quantity a) p in
    let j = not-false (form_is quantity b) q in
    record { from_form = i; to_form = j; alike = rw (i, j) at r; ordered = rw (i, j) at s; from_fits = t; to_fits = u }

-- ---- where the code stands before the first element
module _ (quantity : Bool) (before : ℕ) (room : List ℤ) (stamp : ℕ) (marks : List ℕ)
    (few : before ≤ 4096) (long : length room ≡ 16384) (slots : length marks ≡ 16384) where
  pub empty_lines : {b : books.Block} → b ≡ empty_block → Lines quantity before room room stamp marks before b (unlisted none)
  empty_lines e = none_lines quantity before room stamp marks few long slots (rw e empty_kept)

  pub empty_standing : {b : books.Block} → b ≡ empty_block → Standing quantity before room stamp marks before b
  empty_standing e = record { start = room; block = unlisted none; lines = empty_lines e }

  -- ---- a range first
  pub first_range : (bad : Bool) (d : List ℕ) (languages : Bool) (p e : ℕ) {l : Lined} {r : Listed} → e ≤ length d
      → is_named d (p + 1) e RANGE ≡ true → l ≡ lined_of (range_read bad d quantity p e) → r ≡ counted_of l before
      → Begun (length d) quantity before room room stamp marks (first_tag bad d languages quantity before p e) r
  unfolding listed_of
  first_range bad d languages p e {l} {r} h q i j = rw q
      (by (range bad d quantity p e) refl (j ∙ ap (λ (x : Lined). counted_of x before) i))
    where
      by : (x : Result Range) → range bad d quantity p e ≡ x → r ≡ counted_of (lined_of (bind x (λ r m. Is (range_block r) m))) before
          → Begun (length d) quantity before room room stamp marks (bind x (λ r m. Is (range_block r) m)) r
      by (Is k n) f g =
          let t = range_told bad d quantity p e h f in
          let s = range_sound quantity k.from k.to t.clean in
          let z : before ≡ before + 0 = omega arith in
          let y = none_lines quantity before room stamp marks few long slots (range_kept k.from k.to s.alike) in
          record {
            answer = g ∙ ap (λ (m : ℕ). listing.Is (block_of (range_block k)) m n) z;
            lines = λ {c = c'} {n = n'} u. let v : range_block k ≡ c' = cc in rw (← v, ← z) y;
            next = λ {c = c'} {n = n'} u. let v : n ≡ n' = cc in rw (← v) t.next;
          }
      by (Not f) g k = record { answer = k; lines = λ {c = c'} {n = n'} i. never cc; next = λ {c = c'} {n = n'} i. never cc }

-- ---- a line first
module _ {top : ℕ} {quantity : Bool} {before : ℕ} {first room : List ℤ} {stamp : ℕ} {marks : List ℕ} where
  pub first_line : (bad : Bool) (d : List ℕ) (languages : Bool) (p e : ℕ) {l : Lined} {r : Listed} → is_named d (p + 1) e RANGE ≡ false
      → Went top quantity before first room stamp marks before
      (due bad d VALUE (start p) (lined bad d languages quantity before (unlisted none)) e) l
      → r ≡ counted_of l (before + 1)
      → Begun top quantity before first room stamp marks (first_tag bad d languages quantity before p e) r
  unfolding listed_of
  first_line bad d languages p e {l} {r} q w j = rw q (by _ w) where
    by : (x : Result Block) → Went top quantity before first room stamp marks before x l
        → Begun top quantity before first room stamp marks x r
    by (Is c n) w =
        let k = w.lines refl in
        let z : before + 1 ≡ before + length c.lines = omega (arith, k.holds.count, told_count c.lines) in
        record {
          answer = j ∙ ap (λ (x : Lined). counted_of x (before + 1)) w.answer ∙ ap (λ (m : ℕ). listing.Is (block_of c) m n) z;
          lines = λ {c = c'} {n = n'} u. let v : c ≡ c' = cc in rw (← v, ← z) k;
          next = w.next;
        }
    by (Not f) w = record {
      answer = j ∙ ap (λ (x : Lined). counted_of x (before + 1)) w.answer;
      lines = λ {c = c'} {n = n'} i. never cc;
      next = λ {c = c'} {n = n'} i. never cc;
    }

  pub begun_not : {x : Result Block} {f : Fault} → x ≡ Not f → Begun top quantity before first room stamp marks x (listing.Not f)
  unfolding listed_of
  begun_not e = rw e (record { answer = refl; lines = λ {c = c'} {n = n'} i. never cc; next = λ {c = c'} {n = n'} i. never cc })

-- ---- what stands where an element is due
module _ (bad : Bool) (d : List ℕ) (at : ℕ) where
  pub open_is : {o : Open} → open_of (within_element bad d VALUES at) ≡ o → within_element bad d VALUES at ≡ read_of o
  open_is e = sym (read_open (within_element bad d VALUES at)) ∙ ap read_of e

  module _ (languages quantity : Bool) (before : ℕ) where
    pub first_start : {p e : ℕ} → open_of (within_element bad d VALUES at) ≡ opened.Start p e
        → block.first bad d languages quantity before at ≡ first_tag bad d languages quantity before p e
    unfolding block.first
    first_start e = rw (open_is e)

    pub first_shut : {p n : ℕ} → open_of (within_element bad d VALUES at) ≡ opened.Shut p n
        → block.first bad d languages quantity before at ≡ Not (fault 2 p)
    unfolding block.first
    first_shut e = rw (open_is e)

    pub first_not : {f : Fault} → open_of (within_element bad d VALUES at) ≡ opened.Not f → block.first bad d languages quantity before at
        ≡ Not f
    unfolding block.first
    first_not e = rw (open_is e)

-- ---- a start tag where a line is due
module _ (bad : Bool) (d : List ℕ) (languages quantity : Bool) (before : ℕ) (c : Block) (p e : ℕ) where
  pub tag_refused : {top : ℕ} {first room : List ℤ} {stamp : ℕ} {marks : List ℕ} {last : ℕ} {f : Fault} → is_named d (p + 1) e VALUE ≡ false
      → f ≡ blamed {A = Unit} (misplaced bad d p e)
      → Went top quantity before first room stamp marks last (due bad d VALUE (start p) (lined bad d languages quantity before c) e)
      (lining.Not f)
  tag_refused q i =
      rw (q, missed bad d {A = Block} p e, i)
      (record { answer = refl; lines = λ {c = c'} {n = n'} i. never cc; next = λ {c = c'} {n = n'} i. never cc })

  -- a line more is another turn
  abbrev more : Block → ℕ → Result (Next Block Block)
  more k n = Is (Again k) n

  pub due_again : due bad d VALUE (start p) (λ p n. bind (lined bad d languages quantity before c p n) more) e
      ≡ bind (due bad d VALUE (start p) (lined bad d languages quantity before c) e) more
  due_again = by (is_named d (p + 1) e VALUE) where
    on : (t : Tag) → rule.on_bare bad d {A = Next Block Block} p t ≡ bind (rule.on_bare bad d {A = Block} p t) more
    on (tag.Read h em q n) = refl
    on (tag.Fault k q) = refl

    by : (q : Bool) → cond q (bind (lined bad d languages quantity before c p e) more) (misplaced bad d p e)
        ≡ bind (cond q (lined bad d languages quantity before c p e) (misplaced bad d p e)) more
    by true = refl
    by false = on (bare_of bad d p e)

module _ (bad : Bool) (d : List ℕ) (languages quantity : Bool) (before : ℕ) (c : Block) (n f : ℕ) where
  abbrev turns : ℕ → Block → ℕ → Result Block
  turns f k m = repeat f (another_line bad d languages quantity before) k m

  abbrev dues : ℕ → ℕ → Result Block
  dues p e = due bad d VALUE (start p) (lined bad d languages quantity before c) e

  start_turn : {p e : ℕ} → open_of (within_element bad d VALUES n) ≡ opened.Start p e → another_line bad d languages quantity before c n
      ≡ bind (dues p e) (λ k m. Is (Again k) m)
  unfolding another_line
  start_turn {p} {e} i = rw (open_is bad d n i) (due_again bad d languages quantity before c p e)

  pub turn_again : {p e m : ℕ} {k : Block} → open_of (within_element bad d VALUES n) ≡ opened.Start p e → dues p e ≡ Is k m
      → turns (suc f) c n
      ≡ turns f k m
  unfolding repeat
  turn_again i j = rw (start_turn i, j)

  pub turn_not : {p e : ℕ} {g : Fault} → open_of (within_element bad d VALUES n) ≡ opened.Start p e → dues p e ≡ Not g → turns (suc f) c n
      ≡ Not g
  unfolding repeat
  turn_not i j = rw (start_turn i, j)

  pub turn_over : {p m : ℕ} → open_of (within_element bad d VALUES n) ≡ opened.Shut p m → turns (suc f) c n ≡ Is c m
  unfolding repeat another_line
  turn_over i = rw (open_is bad d n i)

  pub turn_none : {g : Fault} → open_of (within_element bad d VALUES n) ≡ opened.Not g → turns (suc f) c n ≡ Not g
  unfolding repeat another_line
  turn_none i = rw (open_is bad d n i)

-- ---- what the code gave back of a line
pub record Stepped (top : ℕ) (quantity : Bool) (before : ℕ) (first room : List ℤ) (stamp : ℕ) (marks : List ℕ) (last : ℕ) (b : books.Block)
    (r : Result Block) (n : ℕ) : Type 0 where
  pub block : Block
  pub reads : r ≡ Is block n
  pub lines : Lines quantity before first room stamp marks (last + 1) b block
  pub next : n ≤ top

module _ {top : ℕ} {quantity : Bool} {before : ℕ} {first room : List ℤ} {stamp : ℕ} {marks : List ℕ} {last : ℕ} {out : Lined} where
  pub went_is : (r : Result Block) → Went top quantity before first room stamp marks last r out → {b : books.Block} {n : ℕ} → out
      ≡ lining.Is b n
      → Stepped top quantity before first room stamp marks last b r n
  went_is (Is c m) w {b} {n} e =
      let a = w.answer in
      let y : block_of c ≡ b = cc in
      let z : m ≡ n = cc in
      record { block = c; reads = ap (λ (k : ℕ). Is c k) z; lines = rw (← y) (w.lines refl); next = rw (← z) (w.next refl) }
  went_is (Not f) w e = let a = w.answer in never cc

  pub went_not : (r : Result Block) → Went top quantity before first room stamp marks last r out → {f : Fault} → out ≡ lining.Not f → r
      ≡ Not f
  went_not (Is c m) w e = let a = w.answer in never cc
  went_not (Not g) w e = let a = w.answer in cc

-- ---- all lines
pub record Reached (bad : Bool) (d : List ℕ) (languages quantity : Bool) (before : ℕ) (first room : List ℤ) (stamp : ℕ) (marks : List ℕ)
    (n : ℕ) (b : books.Block) (last : ℕ) (r : Result Block) : Type 0 where
  pub block : Block
  pub left : ℕ
  pub lines : Lines quantity before first room stamp marks last b block
  pub enough : 4096 - last < suc left
  pub same : r ≡ repeat (suc left) (another_line bad d languages quantity before) block n

-- where the loop stands: beside some block, and beside each that it may have begun with
pub record Ran (bad : Bool) (d : List ℕ) (languages quantity : Bool) (before : ℕ) (stamp : ℕ) (began : List ℤ) (marked : List ℕ) (n₀ : ℕ)
    (b₀ : books.Block) (last₀ : ℕ) (room : List ℤ) (marks : List ℕ) (n : ℕ) (b : books.Block) (last : ℕ) : Type 0 where
  pub standing : Standing quantity before room stamp marks last b
  pub inside : n ≤ length d
  pub follows : (c : Block) (first : List ℤ) (f : ℕ) → Lines quantity before first began stamp marked last₀ b₀ c → 4096 - last₀ < f
      → Reached bad d languages quantity before first room stamp marks n b last
      (repeat f (another_line bad d languages quantity before) c n₀)

pub closed_not : {top before : ℕ} {x : Result Block} {room end : List ℤ} {f : Fault} → x ≡ Not f
    → Closed top before x room end (listing.Not f)
unfolding listed_of
closed_not e = rw e (record {
  answer = refl;
  stored = record { stored = λ {c = c'} {n = n'} i. never cc };
  next = λ {c = c'} {n = n'} i. never cc;
})

pub closed_over : {top : ℕ} {quantity : Bool} {before : ℕ} {first room : List ℤ} {stamp : ℕ} {marks : List ℕ} {last : ℕ} {b : books.Block}
    {c : Block}
    {m : ℕ} {x : Result Block} → x ≡ Is c m → Lines quantity before first room stamp marks last b c → m ≤ top
    → Closed top before x first room (listing.Is b last m)
unfolding listed_of
closed_over {top} {quantity} {before} {first} {room} {last = last} {b = b} {c = c} {m = m} e l h =
    let k : last ≡ before + length c.lines = omega (arith, l.holds.count, told_count c.lines) in
    rw (e, kept_is l.kept, k)
    (record {
      answer = refl;
      stored = record {
        stored = λ {c = c'} {n = n'} i. let j : c ≡ c' = cc in
            rw (← j) (l.holds.here ∙ rw (told_cells quantity c.lines l.small));
      };
      next = λ {c = c'} {n = n'} i. let j : m ≡ n' = cc in rw (← j) h;
    })

module _ {bad : Bool} {d : List ℕ} {languages quantity : Bool} {before stamp : ℕ} {first room : List ℤ} {marks : List ℕ} {n : ℕ}
    {b : books.Block}
    {last : ℕ} {r : Result Block} (t : Reached bad d languages quantity before first room stamp marks n b last r) where
  reached_more : {p e : ℕ} → open_of (within_element bad d VALUES n) ≡ opened.Start p e
      → {end : List ℤ} {after : List ℕ} {k : books.Block} {m : ℕ}
      → last < 4096
      → Stepped (length d) quantity before first end stamp after last k
      (due bad d VALUE (start p) (lined bad d languages quantity before t.block) e) m
      → Reached bad d languages quantity before first end stamp after m k (last + 1) r
  reached_more o {end} {after} {k} {m} less s = by t.left t.enough t.same where
    by : (u : ℕ) → 4096 - last < suc u → r ≡ repeat (suc u) (another_line bad d languages quantity before) t.block n
        → Reached bad d languages quantity before first end stamp after m k (last + 1) r
    by zero h q = absurd (omega arith)
    by (suc u) h q = record {
      block = s.block;
      left = u;
      lines = s.lines;
      enough = omega arith;
      same = q ∙ turn_again bad d languages quantity before t.block n (suc u) o s.reads;
    }

module _ {bad : Bool} {d : List ℕ} {languages quantity : Bool} {before stamp : ℕ} where
  pub ran_first : {room : List ℤ} {marks : List ℕ} {n : ℕ} {b : books.Block} {last : ℕ} → Standing quantity before room stamp marks last b
      → n ≤ length d
      → Ran bad d languages quantity before stamp room marks n b last room marks n b last
  ran_first {room} {marks} {n} {b} {last} s h = record { standing = s; inside = h; follows = begin } where
    begin : (c : Block) (first : List ℤ) (f : ℕ) → Lines quantity before first room stamp marks last b c → 4096 - last < f
        → Reached bad d languages quantity before first room stamp marks n b last
        (repeat f (another_line bad d languages quantity before) c n)
    begin c first zero l e = absurd (omega arith)
    begin c first (suc f) l e = record { block = c; left = f; lines = l; enough = e; same = refl }

  module _ {began room : List ℤ} {marked marks : List ℕ} {n₀ n : ℕ} {b₀ b : books.Block} {last₀ last : ℕ}
      (i : Ran bad d languages quantity before stamp began marked n₀ b₀ last₀ room marks n b last) {p e : ℕ}
      (o : open_of (within_element bad d VALUES n) ≡ opened.Start p e) {out : Lined} {end : List ℤ} {after : List ℕ}
      (w : (c : Block) (first : List ℤ) → Lines quantity before first room stamp marks last b c
      → Went (length d) quantity before first end stamp after last (due bad d VALUE (start p) (lined bad d languages quantity before c) e)
      out) where
    pub ran_less : {k : books.Block} {m : ℕ} → out ≡ lining.Is k m → last < 4096
    ran_less f =
        let s = went_is _ (w i.standing.block i.standing.start i.standing.lines) f in
        let h = s.lines.holds.most in
        omega arith

    pub ran_more : {k : books.Block} {m : ℕ} → out ≡ lining.Is k m
        → Ran bad d languages quantity before stamp began marked n₀ b₀ last₀ end after m k (last + 1)
    ran_more {k} {m} f =
        let s = went_is _ (w i.standing.block i.standing.start i.standing.lines) f in
        record {
          standing = record { start = i.standing.start; block = s.block; lines = s.lines };
          inside = s.next;
          follows = λ c first g l h.
              let t = i.follows c first g l h in
              reached_more t o (ran_less f) (went_is _ (w t.block first t.lines) f);
        }

    pub ran_not : {g : Fault} → out ≡ lining.Not g → (c : Block) (first : List ℤ) (f : ℕ)
        → Lines quantity before first began stamp marked last₀ b₀ c
        → 4096 - last₀ < f → Closed (length d) before (repeat f (another_line bad d languages quantity before) c n₀) first end
        (listing.Not g)
    ran_not q c first f l h =
        let t = i.follows c first f l h in
        closed_not (t.same ∙ turn_not bad d languages quantity before t.block n t.left o
        (went_not _ (w t.block first t.lines) q))

  module _ {began room : List ℤ} {marked marks : List ℕ} {n₀ n : ℕ} {b₀ b : books.Block} {last₀ last : ℕ}
      (i : Ran bad d languages quantity before stamp began marked n₀ b₀ last₀ room marks n b last) where
    pub ran_over : {p m : ℕ} → open_of (within_element bad d VALUES n) ≡ opened.Shut p m → m ≤ length d
        → (c : Block) (first : List ℤ) (f : ℕ) → Lines quantity before first began stamp marked last₀ b₀ c
        → 4096 - last₀ < f → Closed (length d) before (repeat f (another_line bad d languages quantity before) c n₀) first room
        (listing.Is b last m)
    ran_over o k c first f l h =
        let t = i.follows c first f l h in
        closed_over (t.same ∙ turn_over bad d languages quantity before t.block n t.left o) t.lines k

    pub ran_none : {g : Fault} → open_of (within_element bad d VALUES n) ≡ opened.Not g
        → (c : Block) (first : List ℤ) (f : ℕ) → Lines quantity before first began stamp marked last₀ b₀ c
        → 4096 - last₀ < f → Closed (length d) before (repeat f (another_line bad d languages quantity before) c n₀) first room
        (listing.Not g)
    ran_none o c first f l h =
        let t = i.follows c first f l h in
        closed_not (t.same ∙ turn_none bad d languages quantity before t.block n t.left o)

-- ---- the whole block
pub record Opened (top : ℕ) (quantity : Bool) (before : ℕ) (first room : List ℤ) (stamp : ℕ) (marks : List ℕ) (last : ℕ) (b : books.Block)
    (r : Result Block) (n : ℕ) : Type 0 where
  pub block : Block
  pub reads : r ≡ Is block n
  pub lines : Lines quantity before first room stamp marks last b block
  pub next : n ≤ top

module _ {top : ℕ} {quantity : Bool} {before : ℕ} {first room : List ℤ} {stamp : ℕ} {marks : List ℕ} {out : Listed} where
  pub begun_is : (r : Result Block) → Begun top quantity before first room stamp marks r out → {b : books.Block} {last n : ℕ}
      → out ≡ listing.Is b last n → Opened top quantity before first room stamp marks last b r n
  unfolding listed_of
  begun_is (Is c m) w {b} {last} {n} e =
      let a = w.answer in
      let x : block_of c ≡ b = cc in
      let y : before + length c.lines ≡ last = cc in
      let z : m ≡ n = cc in
      record { block = c; reads = ap (λ (k : ℕ). Is c k) z; lines = rw (← x, ← y) (w.lines refl); next = rw (← z) (w.next refl) }
  begun_is (Not f) w e = let a = w.answer in never cc

  pub begun_refused : (r : Result Block) → Begun top quantity before first room stamp marks r out → {f : Fault} → out ≡ listing.Not f → r
      ≡ Not f
  unfolding listed_of
  begun_refused (Is c m) w e = let a = w.answer in never cc
  begun_refused (Not g) w e = let a = w.answer in cc

pub opened_standing : {top : ℕ} {quantity : Bool} {before : ℕ} {first room : List ℤ} {stamp : ℕ} {marks : List ℕ} {last : ℕ}
    {b : books.Block}
    {r : Result Block} {n : ℕ} → Opened top quantity before first room stamp marks last b r n
    → Standing quantity before room stamp marks last b
opened_standing {first = first} o = record { start = first; block = o.block; lines = o.lines }

-- ---- its start tag
module _ (bad : Bool) (d : List ℕ) (languages quantity : Bool) (before p e : ℕ) where
  module _ {h : Held} {em : Bool} {q n : ℕ} (t : bare_of bad d p e ≡ tag.Read h em q n) where
    pub bare_next : e ≤ length d → n ≤ length d
    bare_next l = (tag_tells d 0 0 0 bad p e [] [] [] 0 t).next

    pub values_unknown : (h.unknown ≡ 0 → ⊥) → block.values bad d languages quantity before p e ≡ Not (fault 51 h.unknown)
    unfolding block.values judged named least lower
    values_unknown k = rw (t, ne_eqb h.unknown 0 k)

    pub values_empty : h.unknown ≡ 0 → em ≡ true → block.values bad d languages quantity before p e ≡ Not (fault 2 q)
    unfolding block.values judged named least lower
    values_empty k i = rw (t, eq-eqb h.unknown 0 k, i)

    pub values_open : h.unknown ≡ 0 → em ≡ false
        → block.values bad d languages quantity before p e ≡ block_read bad d languages quantity before n
    unfolding block.values judged named least lower
    values_open k i = rw (t, eq-eqb h.unknown 0 k, i)

  pub values_fault : {k q : ℕ} → bare_of bad d p e ≡ tag.Fault k q → block.values bad d languages quantity before p e ≡ Not (fault k q)
  unfolding block.values
  values_fault t = rw t
