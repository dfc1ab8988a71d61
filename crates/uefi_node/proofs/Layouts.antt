-- Values in bytes: their fields, one after another, and what follows them.
use Rattle.std.proofs.Common.{◌≡◌, ℕ, zero, suc, ◌+◌, ◌-◌, ◌%◌, ◌<◌, ◌≤◌, List, [], ◌∷◌, ◌++◌, length, drop, get_or}
use Rattle.std.proofs.Common.{refl, sym, ◌∙◌, ap, subst, arith, lit<, length-append, length-drop, take-append-drop, append_assoc, take}
use Rattle.std.proofs.lemmas.List.{take_at, drop_at, drop-drop, drop_more, get_or-drop, nil_from_length}
use Rattle.std.proofs.lemmas.Nat.{le_bytes_2, le_bytes_4, le_bytes_8}
use Rattle.std.proofs.lemmas.Nat.{from_le_bytes-to_le_bytes_2, from_le_bytes-to_le_bytes_4, from_le_bytes-to_le_bytes_8}
use Rattle.std.specs.Int.{from_le_bytes, to_le_bytes}
use Rattle.std.specs.Prelude.{slice_range, Option, Some, None}
use Rattle.std.specs.List.{AllByRecursion}
use Rattle.uefi_base.specs.LittleEndian.{AreBytes}
use Rattle.uefi_base.specs.Unaligned.{AreUnits, units_of, unit_bytes}
use Rattle.uefi_base.proofs.NumbersBack.{AreBytes-range, length-range}
use Rattle.uefi_base.proofs.UnitsBack.{units_read_back}
use Rattle.uefi_node.specs.Layout.{Size, two, four, eight, Field, byte, number, array}
use Rattle.uefi_node.specs.Layout.{Rest, nothing, bytes, units, numbers, addresses, vendor, vendor_bytes, IsVendor}
use Rattle.uefi_node.specs.Layout.{Layout, width, size_of, limit, field_size, field_bytes, FieldFits, fields_size, fields_bytes}
use Rattle.uefi_node.specs.Layout.{rest_bytes, kind_of, RestLength, RestFits, HasForm, FitsLayout, value_bytes}
use Rattle.uefi_node.specs.Laws.{SameField, SameRest, OneValue}
use Rattle.uefi_node.specs.private.Fields.{FieldAt, FieldsAt, RestIs, HasValue}

-- Numbers: the length of their bytes, those that are read, and those that were written.
pub number_len : (size : Size) (n : ℕ) → length (to_le_bytes (width size) n) ≡ size_of size
number_len two n = refl
number_len four n = refl
number_len eight n = refl

number_back : (size : Size) (x : List ℕ) → length x ≡ size_of size → AreBytes x
    → to_le_bytes (width size) (from_le_bytes (width size) x) ≡ x
number_back two x len each = le_bytes_2 x _ len each refl
number_back four x len each = le_bytes_4 x _ len each refl
number_back eight x len each = le_bytes_8 x _ len each refl

pub number_again : (size : Size) (n : ℕ) → n < limit size → from_le_bytes (width size) (to_le_bytes (width size) n) ≡ n
number_again two n lt = from_le_bytes-to_le_bytes_2 n lt
number_again four n lt = from_le_bytes-to_le_bytes_4 n lt
number_again eight n lt = from_le_bytes-to_le_bytes_8 n lt

number_below : (size : Size) (x : List ℕ) → AreBytes x → from_le_bytes (width size) x < limit size
number_below two x each = omega (arith, each 0, each 1)
number_below four x each = omega (arith, each 0, each 1, each 2, each 3)
number_below eight x each =
    omega (arith, each 0, each 1, each 2, each 3, each 4, each 5, each 6, each 7)

-- A range of bytes, and what follows it.
range_then : (b : List ℕ) (offset n : ℕ) → slice_range b offset (offset + n) ++ drop (offset + n) b ≡ drop offset b
range_then b offset n =
    let wide : offset + n - offset ≡ n = omega arith in
    rw (wide, ← drop-drop n offset b) (take-append-drop n (drop offset b))

-- What bytes go on with at an offset is the range there.
range_is : (b part rest : List ℕ) (offset n : ℕ) → length part ≡ n → drop offset b ≡ part ++ rest
    → (part ≡ slice_range b offset (offset + n)) × (drop (offset + n) b ≡ rest)
range_is b part rest offset n sized is =
    let wide : offset + n - offset ≡ n = omega arith in (
      rw (wide, is) (sym (take_at part rest n sized)),
      rw (← drop-drop n offset b, is) (drop_at part rest n sized),
    )

-- A byte, and what follows it.
byte_then : (b : List ℕ) (offset : ℕ) → offset + 1 ≤ length b → get_or b offset 0 ∷ drop (offset + 1) b ≡ drop offset b
byte_then b offset room = sym (drop_more b offset 0 (omega (arith, room)))

byte_is : (b rest : List ℕ) (n offset : ℕ) → drop offset b ≡ n ∷ rest
    → (n ≡ get_or b offset 0) × (drop (offset + 1) b ≡ rest)
byte_is b rest n offset is =
    let within : offset < length b = omega (arith, ap length is, length-drop offset b) in
    let next = sym (drop_more b offset 0 within) ∙ is in
    let head : get_or b offset 0 ≡ n = cc in
    let others : drop (offset + 1) b ≡ rest = cc in
    (sym head, others)

-- A field that was written is at its offset.
field_written : {R : Type 0} (f : Field R) (r : R) (b rest : List ℕ) (offset : ℕ) → FieldFits r f
    → drop offset b ≡ field_bytes f r ++ rest → FieldAt f r b offset × (drop (offset + field_size f) b ≡ rest)
field_written (byte get) r b rest offset fits is = byte_is b rest (get r) offset is
field_written (number size get) r b rest offset fits is =
    let range = range_is b (to_le_bytes (width size) (get r)) rest offset (size_of size) (number_len size (get r)) is in
    (sym (number_again size (get r) fits) ∙ ap (from_le_bytes (width size)) range.0, range.1)
field_written (array n get) r b rest offset fits is = range_is b (get r) rest offset n fits is

-- A field at its offset fits, and its bytes are those there.
field_read : {R : Type 0} (f : Field R) (r : R) (b : List ℕ) (offset : ℕ) → AreBytes b
    → offset + field_size f ≤ length b → FieldAt f r b offset
    → FieldFits r f × (field_bytes f r ++ drop (offset + field_size f) b ≡ drop offset b)
field_read (byte get) r b offset each room is = (rw is (each offset), rw is (byte_then b offset room))
field_read (number size get) r b offset each room is =
    let range : List ℕ = slice_range b offset (offset + size_of size) in
    let fits : AreBytes range = AreBytes-range b offset (offset + size_of size) each in
    let back : to_le_bytes (width size) (get r) ≡ range =
    ap (to_le_bytes (width size)) is ∙ number_back size range (length-range b offset (size_of size) room) fits in
    (rw is (number_below size range fits), rw back (range_then b offset (size_of size)))
field_read (array n get) r b offset each room is =
    (ap length is ∙ length-range b offset n room, rw is (range_then b offset n))

-- Fields that were written are at their offsets.
fields_written : {R : Type 0} (fs : List (Field R)) (r : R) (b rest : List ℕ) (offset : ℕ)
    → AllByRecursion (FieldFits r) fs → drop offset b ≡ fields_bytes fs r ++ rest
    → FieldsAt fs r b offset × (drop (offset + fields_size fs) b ≡ rest)
fields_written [] r b rest offset fit is = (tt, ap (λ n. drop n b) (omega arith) ∙ is)
fields_written (f ∷ fs) r b rest offset fit is =
    let first = field_written f r b (fields_bytes fs r ++ rest) offset fit.0
    (is ∙ append_assoc (field_bytes f r) (fields_bytes fs r) rest) in
    let others = fields_written fs r b rest (offset + field_size f) fit.1 first.1 in
    ((first.0, others.0), ap (λ n. drop n b) (omega arith) ∙ others.1)

-- Fields at their offsets fit, and their bytes are those there.
fields_read : {R : Type 0} (fs : List (Field R)) (r : R) (b : List ℕ) (offset : ℕ) → AreBytes b
    → offset + fields_size fs ≤ length b → FieldsAt fs r b offset
    → AllByRecursion (FieldFits r) fs × (fields_bytes fs r ++ drop (offset + fields_size fs) b ≡ drop offset b)
fields_read [] r b offset each room are = (tt, ap (λ n. drop n b) (omega arith))
fields_read (f ∷ fs) r b offset each room are =
    let first = field_read f r b offset each (omega (arith, room)) are.0 in
    let others = fields_read fs r b (offset + field_size f) each (omega (arith, room)) are.1 in
    let end : offset + (field_size f + fields_size fs) ≡ offset + field_size f + fields_size fs = omega arith in
    ((first.0, others.0), append_assoc (field_bytes f r) (fields_bytes fs r) _ ∙ rw (end, others.1) first.1)

-- The same of fields at the beginning.
front_read : {R : Type 0} (fs : List (Field R)) (r : R) (b : List ℕ) → AreBytes b
    → fields_size fs ≤ length b → FieldsAt fs r b 0
    → AllByRecursion (FieldFits r) fs × (fields_bytes fs r ++ drop (fields_size fs) b ≡ b)
front_read fs r b each room are =
    let read = fields_read fs r b 0 each (omega (arith, room)) are in
    (read.0, ap (λ n. fields_bytes fs r ++ drop n b) (omega arith) ∙ read.1)

-- How many bytes they are.
pub field_sized : {R : Type 0} (f : Field R) (r : R) → FieldFits r f → length (field_bytes f r) ≡ field_size f
field_sized (byte get) r fits = refl
field_sized (number size get) r fits = number_len size (get r)
field_sized (array n get) r fits = fits

pub length-fields_bytes : {R : Type 0} (fs : List (Field R)) (r : R) → AllByRecursion (FieldFits r) fs
    → length (fields_bytes fs r) ≡ fields_size fs
length-fields_bytes [] r fit = refl
length-fields_bytes (f ∷ fs) r fit =
    length-append (field_bytes f r) (fields_bytes fs r)
    ∙ omega (arith, field_sized f r fit.0, length-fields_bytes fs r fit.1)

-- Nothing follows all bytes.
none_left : (b : List ℕ) (n : ℕ) → length b ≡ n → drop n b ≡ []
none_left b n long = nil_from_length (drop n b) (omega (arith, length-drop n b, long))

-- Units of bytes are units.
AreUnits-units_of : (b : List ℕ) → AreBytes b → AreUnits (units_of b)
AreUnits-units_of [] each k = lit< tt
AreUnits-units_of (low ∷ []) each k = lit< tt
AreUnits-units_of (low ∷ high ∷ rest) each zero = omega (arith, each 0, each 1)
AreUnits-units_of (low ∷ high ∷ rest) each (suc k) = AreUnits-units_of rest (λ i. each (suc (suc i))) k

AreBytes-drop : (n : ℕ) (b : List ℕ) → AreBytes b → AreBytes (drop n b)
AreBytes-drop n b fits i = rw get_or-drop (fits (n + i))

-- The rest that bytes go on with.
rest_read : {R : Type 0} (rest : Rest R) (r : R) (n : ℕ) (b : List ℕ) → AreBytes b → n ≤ length b
    → RestLength (kind_of rest) (length b - n) → RestIs rest r (drop n b) → RestFits rest r × (rest_bytes rest r ≡ drop n b)
rest_read nothing r n b each room long is = (tt, sym (none_left b n (omega (arith, room, long))))
rest_read (bytes get) r n b each room long is = (tt, is)
rest_read (units get) r n b each room long is =
    let part : List ℕ = drop n b in
    let part_each : AreBytes part = AreBytes-drop n b each in
    let even_part : length part % 2 ≡ 0 = ap (λ k. k % 2) (length-drop n b) ∙ long in
    (rw is (AreUnits-units_of part part_each), ap unit_bytes is ∙ units_read_back.read part part_each even_part)
rest_read (numbers get) r n b each room (some, whole) is =
    let long : length (get r) ≡ length b - n = ap length is ∙ length-drop n b in
    ((omega (arith, long, some), ap (λ k. k % 4) long ∙ whole), is)
rest_read (addresses get) r n b each room whole is =
    (ap (λ x. length x % 16) is ∙ ap (λ k. k % 16) (length-drop n b) ∙ whole, is)
rest_read (vendor get) r n b each room long is = is

-- Bytes that have a value are those of the value.
pub value_read : {R : Type 0} (l : Layout R) (r : R) (b : List ℕ) → AreBytes b → fields_size l.fields ≤ length b
    → RestLength (kind_of l.rest) (length b - fields_size l.fields) → HasValue l r b → FitsLayout l r × (b ≡ value_bytes l r)
unfolding value_bytes
value_read l r b each room long has =
    let read = front_read l.fields r b each room has.fields in
    let rest = rest_read l.rest r (fields_size l.fields) b each room long has.rest in
    let same : b ≡ value_bytes l r = sym read.1 ∙ ap (λ tail. fields_bytes l.fields r ++ tail) (sym rest.1) in (
      record { fields = read.0; rest = rest.0; value = has.value; form = subst (HasForm l.form) same has.form },
      same,
    )

-- The bytes of a value have a length of the type.
pub rest_sized : {R : Type 0} (rest : Rest R) (r : R) → RestFits rest r → RestLength (kind_of rest) (length (rest_bytes rest r))
rest_sized nothing r fits = refl
rest_sized (bytes get) r fits = tt
rest_sized (units get) r fits = omega (arith, units_read_back.sized (get r))
rest_sized (numbers get) r fits = fits
rest_sized (addresses get) r fits = fits
rest_sized (vendor get) r fits = tt

pub value_sized : {R : Type 0} (l : Layout R) (r : R) (b : List ℕ) → FitsLayout l r → b ≡ value_bytes l r
    → (fields_size l.fields ≤ length b) × RestLength (kind_of l.rest) (length b - fields_size l.fields)
unfolding value_bytes
value_sized l r b fits is =
    let front : length (fields_bytes l.fields r) ≡ fields_size l.fields = length-fields_bytes l.fields r fits.fields in
    let tail : List ℕ = rest_bytes l.rest r in
    let long : length b ≡ fields_size l.fields + length tail =
    ap length is ∙ length-append (fields_bytes l.fields r) tail ∙ ap (λ n. n + length tail) front in
    let after : length tail ≡ length b - fields_size l.fields = omega (arith, long) in
    (omega (arith, long), subst (RestLength (kind_of l.rest)) after (rest_sized l.rest r fits.rest))

-- A node is that of one value.
same_field : {R : Type 0} (f : Field R) (a c : R) (b : List ℕ) (offset : ℕ) → FieldAt f a b offset
    → FieldAt f c b offset → SameField a c f
same_field (byte get) a c b offset p q = p ∙ sym q
same_field (number size get) a c b offset p q = p ∙ sym q
same_field (array n get) a c b offset p q = p ∙ sym q

same_fields : {R : Type 0} (fs : List (Field R)) (a c : R) (b : List ℕ) (offset : ℕ) → FieldsAt fs a b offset
    → FieldsAt fs c b offset → AllByRecursion (SameField a c) fs
same_fields [] a c b offset p q = tt
same_fields (f ∷ fs) a c b offset p q =
    (same_field f a c b offset p.0 q.0, same_fields fs a c b (offset + field_size f) p.1 q.1)

same_vendor : (a c : Option (List ℕ × List ℕ)) → IsVendor a → IsVendor c → vendor_bytes a ≡ vendor_bytes c → a ≡ c
same_vendor None None p q e = refl
same_vendor None (Some (guid, more)) p q e = absurd (omega (arith, ap length e, length-append guid more, q))
same_vendor (Some (guid, more)) None p q e = absurd (omega (arith, ap length e, length-append guid more, p))
same_vendor (Some (guid, more)) (Some (other, others)) p q e =
    let guids : guid ≡ other = sym (take_at guid more 16 p) ∙ ap (take 16) e ∙ take_at other others 16 q in
    let rests : more ≡ others = sym (drop_at guid more 16 p) ∙ ap (drop 16) e ∙ drop_at other others 16 q in
    λ i. Some (guids i, rests i)

same_rest : {R : Type 0} (rest : Rest R) (a c : R) → RestFits rest a → RestFits rest c
    → rest_bytes rest a ≡ rest_bytes rest c → SameRest rest a c
same_rest nothing a c p q e = tt
same_rest (bytes get) a c p q e = e
same_rest (units get) a c p q e =
    sym (units_read_back.written (get a) p) ∙ ap units_of e ∙ units_read_back.written (get c) q
same_rest (numbers get) a c p q e = e
same_rest (addresses get) a c p q e = e
same_rest (vendor get) a c p q e = same_vendor (get a) (get c) p q e

pub one_value : {R : Type 0} (l : Layout R) → OneValue l
unfolding value_bytes
one_value l a c fits_a fits_c e =
    let b : List ℕ = fields_bytes l.fields c ++ rest_bytes l.rest c in
    let same : fields_bytes l.fields a ++ rest_bytes l.rest a ≡ b = ap (λ n. n.payload) e in
    let from_a = fields_written l.fields a b (rest_bytes l.rest a) 0 fits_a.fields (sym same) in
    let from_c = fields_written l.fields c b (rest_bytes l.rest c) 0 fits_c.fields refl in
    record {
      fields = same_fields l.fields a c b 0 from_a.0 from_c.0;
      rest = same_rest l.rest a c fits_a.rest fits_c.rest (sym from_a.1 ∙ from_c.1);
    }
