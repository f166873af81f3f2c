-- "A tag: `<name`, white space and `name = "value"` in any order, `>` or `/>`; what breaks that is 50 at what stands there. An attribute of
-- the element given twice: 50 at the second's name; an unknown one, given once or more, 51 at its name. A required attribute missing: 2 at
-- the tag's `>` or `/>`, after every 2 and 50 in the tag."
-- A start tag with up to three attributes that its element knows. Place 0 is none: no attribute stands there.
use Rattle.std.specs.Prelude.{Bool, cond, ◌&&◌, ◌||◌, List, ℕ, suc, ◌-◌, ltb, eqb, length, take, drop}
use Rattle.scan.specs.rule.Loop.{Next, Again, Done, loop_of}
use Rattle.markup.specs.rule.Bytes.{stands}
use Rattle.spans.specs.rule.Heard.{heard}
use Rattle.forms.specs.rule.Form.{fits_of}
use Rattle.attributes.specs.rule.Attribute.{attribute_of}
use Rattle.attributes.specs.declared.Attribute.{Attribute}
use Rattle.attributes.specs.declared.Attribute.TheVariants.{One, Shut, Faulty}
use Rattle.tags.specs.declared.Held.{Held}
use Rattle.tags.specs.declared.Tag.{Tag}
use Rattle.tags.specs.declared.Tag.TheVariants.{Read, Fault}
use Rattle.tags.specs.declared.Turn.{Turn}
use Rattle.tags.specs.declared.Turn.TheVariants.{More, Over}

-- the stretch from n to e is just w
unfoldable pub is_named : List ℕ → ℕ → ℕ → List ℕ → Bool
is_named d n e w = eqb (e - n) (length w) && stands w (drop n d)

-- which of three names: 1, 2, 3; 0 none of them
unfoldable pub slot_of : List ℕ → ℕ → ℕ → List ℕ → List ℕ → List ℕ → ℕ
slot_of d n e x y z = cond (is_named d n e x) 1 (cond (is_named d n e y) 2 (cond (is_named d n e z) 3 0))

-- the form of a slot's value; any for an attribute that isn't known
unfoldable pub form_of : ℕ → ℕ → ℕ → ℕ → ℕ
form_of slot f g k = cond (eqb slot 1) f (cond (eqb slot 2) g (cond (eqb slot 3) k 0))

-- the bytes from v to e have a form
unfoldable pub stretch_fits : ℕ → List ℕ → ℕ → ℕ → Bool
stretch_fits form d v e = fits_of form (heard (take (e - v) (drop v d)) 0)

-- a value for a place: given twice is 50 at the name, of wrong form 2 at the value, else it is held
abbrev pub placed_of : ℕ → Bool → ℕ → ℕ → Held → Turn
placed_of before good name v h = cond (eqb before 0) (cond good (More h) (Over (Fault 2 v))) (Over (Fault 50 name))

unfoldable pub put_of : Held → ℕ → ℕ → ℕ → Bool → ℕ → ℕ → Turn
put_of h slot name next good v k =
    cond (eqb slot 1) (placed_of h.a good name v
    (record { a = v; ae = k; b = h.b; be = h.be; c = h.c; ce = h.ce; third = h.third; unknown = h.unknown; next = next }))
    (cond (eqb slot 2) (placed_of h.b good name v
    (record { a = h.a; ae = h.ae; b = v; be = k; c = h.c; ce = h.ce; third = h.third; unknown = h.unknown; next = next }))
    (cond (eqb slot 3) (placed_of h.c good name v
    (record { a = h.a; ae = h.ae; b = h.b; be = h.be; c = v; ce = k; third = name; unknown = h.unknown; next = next }))
    (More (record {
      a = h.a;
      ae = h.ae;
      b = h.b;
      be = h.be;
      c = h.c;
      ce = h.ce;
      third = h.third;
      unknown = cond (eqb h.unknown 0)
          name h.unknown;
      next = next;
    }))))

-- the first `required` of the three are given
unfoldable pub misses_of : ℕ → Held → Bool
misses_of required h =
    (ltb 0 required && eqb h.a 0) || ((ltb 1 required && eqb h.b 0) || (ltb 2 required && eqb h.c 0))

unfoldable pub shut_tag : ℕ → Held → Bool → ℕ → ℕ → Tag
shut_tag required h empty place next = cond (misses_of required h) (Fault 2 place) (Read h empty place next)

-- one attribute placed, or the tag's end
abbrev pub turned : List ℕ → List ℕ → List ℕ → List ℕ → ℕ → ℕ → ℕ → ℕ → Held → Attribute → Turn
turned d x y z f g k required h (One n e v w next) =
    let slot = slot_of d n e x y z in
    put_of h slot n next (stretch_fits (form_of slot f g k) d v w) v w
turned d x y z f g k required h (Shut empty place next) = Over (shut_tag required h empty place next)
turned d x y z f g k required h (Faulty p) = Over (Fault 50 p)

unfoldable pub turn_of : Bool → List ℕ → ℕ → List ℕ → List ℕ → List ℕ → ℕ → ℕ → ℕ → ℕ → Held → Turn
turn_of bad d opened x y z f g k required h = turned d x y z f g k required h (attribute_of bad d opened h.next)

abbrev pub on_turn : Turn → Next Held Tag
on_turn (More h) = Again h
on_turn (Over t) = Done t

abbrev pub nothing_held : ℕ → Held
nothing_held at = record { a = 0; ae = 0; b = 0; be = 0; c = 0; ce = 0; third = 0; unknown = 0; next = at }

unfoldable pub turns_of : Bool → List ℕ → ℕ → List ℕ → List ℕ → List ℕ → ℕ → ℕ → ℕ → ℕ → Held → Tag
turns_of bad d opened x y z f g k required h =
    loop_of (λ h. on_turn (turn_of bad d opened x y z f g k required h)) (Fault 0 0) (suc (length d - h.next)) h

-- the tag whose < stands at `opened` and whose attributes begin at `at`
abbrev pub tag_of : Bool → List ℕ → ℕ → ℕ → List ℕ → List ℕ → List ℕ → ℕ → ℕ → ℕ → ℕ → Tag
tag_of bad d opened at x y z f g k required = turns_of bad d opened x y z f g k required (nothing_held at)
