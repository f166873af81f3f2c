-- What a type has behind the filter, by what the code was told of its parts.
use Rattle.std.specs.Prelude.{Ok, Err}
use mathlib.Core.Path.{◌≡◌, refl, sym, ap, ◌∙◌}
use mathlib.Core.Bool.{Bool, true, false, cond}
use mathlib.Core.List.{List}
use Prim.Native.Nat.{ℕ, ◌+◌, ◌*◌, ◌≤◌}
use native.Mathlib.Omega.{arith}
use lib.IntN.{ℤ}
use lib.ListN.{length}
use Rattle.cells.specs.rule.Cell.{pasted}
use Rattle.layout.specs.rule.Layout.{line_size}
use Rattle.scan.specs.Number.{capped}
use Rattle.tags.specs.rule.Tag.{is_named}
use Rattle.tokens.specs.declared.Fault.{Fault}
use Rattle.tokens.specs.declared.Figures.{Figures}
use Rattle.values.specs.declared.Block as books
use Rattle.values.specs.declared.Listed.TheVariants as listed
use Rattle.survey.specs.rule.Survey.{Figure, Block}
use Rattle.survey.specs.rule.Table.{cells_of}
use Rattle.reading.specs.rule.Result.{Result, Is, Not, Reader, bind, give}
use Rattle.bridge.specs.Tokens.{to_number}
use Rattle.bridge.specs.Lowest.{never}
use Rattle.xml_reading.specs.rule.Word.{SIZE, VALUES}
use Rattle.xml_reading.specs.rule.Open.{within_element, due}
use Rattle.xml_reading.specs.rule.Open as rule
use Rattle.xml_reading.specs.rule.Element.{size}
use Rattle.xml_reading.specs.rule.Block.{values}
use Rattle.elements.specs.declared.Open.{Open}
use Rattle.elements.specs.declared.Open.TheVariants as opened
use Rattle.elements.specs.declared.Due.TheVariants as dues
use Rattle.elements.specs.Code.{read_of, due_of, Within}
use Rattle.elements.proofs.Dues.{missed, due_then}
use Rattle.blocks.specs.Code.{block_of, listed_of, Stored}
use Rattle.prefaces.specs.Code.{reading_of}
use Rattle.xml_bridge.specs.Book.{block_as}
use Rattle.xml_laws.specs.Reads.{size_fine}
use Rattle.sheets.specs.Code.{end_in, values_ended, size_ended, valued_of, Valued, plain_of, sized_of}

after : {A B C : Type 0} (x : Result A) (f : A → Reader B) (g : B → Reader C) → bind x (λ a n. bind (f a n) g) ≡ bind (bind x f) g
after (Is a n) f g = refl
after (Not e) f g = refl

module _ (bad : Bool) (d : List ℕ) where
  -- ---- the tag that is due where o stands
  pub due_from : {A : Type 0} (w : List ℕ) (o : Open) (k : ℕ → Reader A) {p e : ℕ} → due_of (bind (read_of o) λ x. due bad d w x give)
      ≡ dues.At p e
      → bind (read_of o) (λ x. due bad d w x k) ≡ k p e
  due_from w o k f = due_then bad d w o k ∙ rw f

  pub due_never : {A : Type 0} (w : List ℕ) (o : Open) (k : ℕ → Reader A) {g : Fault} → due_of (bind (read_of o) λ x. due bad d w x give)
      ≡ dues.Not g
      → bind (read_of o) (λ x. due bad d w x k) ≡ Not g
  due_never w o k f = due_then bad d w o k ∙ rw f

  pub due_within : (w : List ℕ) (o : Open) {p e : ℕ} → Within d 0 o → due_of (bind (read_of o) λ x. due bad d w x give) ≡ dues.At p e
      → (1 ≤ e) × (e ≤ length d)
  due_within w (opened.Start q m) {p} {e} h f = by (is_named d (q + 1) m w) f where
    by : (t : Bool) → due_of (cond t (give q m) (rule.misplaced bad d {A = ℕ} q m)) ≡ dues.At p e → (1 ≤ e) × (e ≤ length d)
    by true f = let j : m ≡ e = cc in rw (← j) (omega (arith, h.1), h.2)
    by false f = other (rw (missed bad d {A = ℕ} q m) at f) where
      other : {B : Type 0} {g : Fault} → dues.Not g ≡ dues.At p e → B
      other z = never cc
  due_within w (opened.Shut q m) h f = never cc
  due_within w (opened.Not g) h f = never cc

  -- ---- a size
  abbrev K : {A : Type 0} → A → Reader A
  K x n = bind (end_in bad d n) λ u n. Is x n

  pub size_ended_lem : (o : Open) {p e : ℕ} → due_of (bind (read_of o) λ x. due bad d SIZE x give) ≡ dues.At p e
      → bind (read_of o) (size_ended bad d) ≡ bind (size bad d p e) K
  size_ended_lem o f = after (read_of o) (λ x. due bad d SIZE x (size bad d)) K
      ∙ ap (λ (r : Result Figure). bind r K) (due_from SIZE o (size bad d) f)

  pub size_never : (o : Open) {g : Fault} → due_of (bind (read_of o) λ x. due bad d SIZE x give) ≡ dues.Not g
      → bind (read_of o) (size_ended bad d) ≡ Not g
  size_never o f = after (read_of o) (λ x. due bad d SIZE x (size bad d)) K
      ∙ ap (λ (r : Result Figure). bind r K) (due_never SIZE o (size bad d) f)

  pub size_next : (p e : ℕ) (x : Figures) → 1 ≤ e → to_number (size bad d p e) ≡ Ok x → x.next ≤ length d
  size_next p e x h = by (size bad d p e) refl where
    by : (r : Result Figure) → size bad d p e ≡ r → to_number r ≡ Ok x → x.next ≤ length d
    by (Is y n) i f =
        let j : record { size = capped y.value; count = y.digits; place = y.place; next = n } ≡ x = cc in
        rw (← j) (size_fine bad d p e h i).next
    by (Not g) i f = never cc

  pub sized_by : (before : ℕ) (y : Result Figure) (x : Figures) → to_number y ≡ Ok x
      → plain_of x.size before (reading_of (end_in bad d x.next)) ≡ sized_of before (bind y K)
  sized_by before (Is f n) x e =
      let j : record { size = capped f.value; count = f.digits; place = f.place; next = n } ≡ x = cc in
      rw (← j) (by (end_in bad d n))
    where
      by : (r : Result Unit) → plain_of (capped f.value) before (reading_of r) ≡ sized_of before (bind r λ u n. Is f n)
      by (Is u k) = refl
      by (Not g) = refl
  sized_by before (Not g) x e = never cc

  pub sized_not : (before : ℕ) (y : Result Figure) {f : Fault} → to_number y ≡ Err f → Err f ≡ sized_of before (bind y K)
  sized_not before (Is x n) e = never cc
  sized_not before (Not g) {f} e = let j : g ≡ f = cc in rw j

  -- ---- a block
  module _ (languages isQuantity : Bool) (before : ℕ) where
    abbrev read : ℕ → Reader Block
    read = values bad d languages isQuantity before

    values_ended_lem : (o : Open) {p e : ℕ} → due_of (bind (read_of o) λ x. due bad d VALUES x give) ≡ dues.At p e
        → bind (read_of o) (values_ended bad d languages isQuantity before) ≡ bind (read p e) K
    values_ended_lem o f = after (read_of o) (λ x. due bad d VALUES x read) K
        ∙ ap (λ (r : Result Block). bind r K) (due_from VALUES o read f)

    values_never : (o : Open) {g : Fault} → due_of (bind (read_of o) λ x. due bad d VALUES x give) ≡ dues.Not g
        → bind (read_of o) (values_ended bad d languages isQuantity before) ≡ Not g
    values_never o f = after (read_of o) (λ x. due bad d VALUES x read) K ∙ ap (λ (r : Result Block). bind r K) (due_never VALUES o read f)

    record ListedIs (y : Result Block) (b : books.Block) (last n : ℕ) : Type 0 where
      block : Block
      is : y ≡ Is block n
      kept : b ≡ block_as block
      count : last ≡ before + length block.lines

    listed_is : (y : Result Block) {b : books.Block} {last n : ℕ} → listed_of before y ≡ listed.Is b last n → ListedIs y b last n
    unfolding listed_of block_of
    listed_is (Is x m) {b} {last} {n} e =
        let i : block_as x ≡ b = cc in
        let j : before + length x.lines ≡ last = cc in
        let k : m ≡ n = cc in
        record { block = x; is = ap (Is x) k; kept = sym i; count = sym j }
    listed_is (Not f) e = never cc

    listed_not : (y : Result Block) {f : Fault} → listed_of before y ≡ listed.Not f → y ≡ Not f
    unfolding listed_of
    listed_not (Is x m) e = never cc
    listed_not (Not g) {f} e = let j : g ≡ f = cc in ap Not j

    -- where the place behind a block lies
    pub listed_next : (y : Result Block) {b : books.Block} {last n : ℕ} → ((c : Block) (m : ℕ) → y ≡ Is c m → m ≤ length d)
        → listed_of before y ≡ listed.Is b last n → n ≤ length d
    listed_next y {n = n} h e = let x = listed_is y e in h x.block n x.is

    module _ (c w : ℕ) (o : Open) (room end : List ℤ) where
      abbrev all : Result Block
      all = bind (read_of o) (values_ended bad d languages isQuantity before)

      refused : {f : Fault} → all ≡ Not f → Valued c w before all room end (Err f)
      refused e = record { is = rw e; line = λ b n i. other (sym e ∙ i) } where
        other : {B : Type 0} {f : Fault} {b : Block} {n : ℕ} → Not f ≡ Is b n → B
        other z = never cc

      pub valued_due : {f : Fault} → due_of (bind (read_of o) λ x. due bad d VALUES x give) ≡ dues.Not f
          → Valued c w before all room end (Err f)
      valued_due e = refused (values_never o e)

      module _ {p e : ℕ} (f : due_of (bind (read_of o) λ x. due bad d VALUES x give) ≡ dues.At p e) where
        pub valued_not : {g : Fault} → listed_of before (read p e) ≡ listed.Not g → Valued c w before all room end (Err g)
        valued_not i = refused (values_ended_lem o f ∙ rw (listed_not (read p e) i))

        module _ {b : books.Block} {last n : ℕ} (i : listed_of before (read p e) ≡ listed.Is b last n) where
          ended_is : all ≡ bind (end_in bad d n) (λ u k. Is (listed_is (read p e) i).block k)
          ended_is = values_ended_lem o f ∙ ap (λ (r : Result Block). bind r K) (listed_is (read p e) i).is

          ends_at : (r : Result Unit) {k : ℕ} → reading_of r ≡ Ok k → (x : Block) → bind r (λ u k. Is x k) ≡ Is x k
          ends_at (Is u j) {k} g x = let q : j ≡ k = cc in ap (Is x) q
          ends_at (Not h) g x = never cc

          ends_not : (r : Result Unit) {h : Fault} → reading_of r ≡ Err h → (x : Block) → bind r (λ u k. Is x k) ≡ Not h
          ends_not (Is u j) g x = never cc
          ends_not (Not q) {h} g x = let j : q ≡ h = cc in ap Not j

          pub valued_ended : {h : Fault} → reading_of (end_in bad d n) ≡ Err h → Valued c w before all room end (Err h)
          valued_ended g = refused (ended_is ∙ ends_not (end_in bad d n) g (listed_is (read p e) i).block)

          pub valued_is : {k : ℕ} → reading_of (end_in bad d n) ≡ Ok k → Stored before (read p e) room end
              → Valued c w before all room end (Ok
              (record { block = b; last = last; subfields = c; subwidth = w; size = 0; next = k }))
          valued_is {k} g s =
              let x = listed_is (read p e) i in
              let q : all ≡ Is x.block k = ended_is ∙ ends_at (end_in bad d n) g x.block in
              record {
                is = made x.block b last k x.kept x.count ∙ ap (valued_of c w before) (sym q);
                line = λ y m z. s.stored x.is
                    ∙ ap (λ (v : Block). pasted room (line_size * before) (cells_of v.lines)) (same (sym q ∙ z));
              }
            where
              same : {x y : Block} {k m : ℕ} → Is x k ≡ Is y m → x ≡ y
              same z = cc

              made : (x : Block) (b : books.Block) (last k : ℕ) → b ≡ block_as x → last ≡ before + length x.lines
                  → Ok (record { block = b; last = last; subfields = c; subwidth = w; size = 0; next = k })
                  ≡ valued_of c w before (Is x k)
              made x b last k e g = rw (e, g)
