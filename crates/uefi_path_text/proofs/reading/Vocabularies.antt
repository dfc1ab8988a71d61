-- Words are read as the numbers that they were written for.
use Rattle.std.proofs.Common.{sym, ◌≡◌, ◌==◌, ◌&&◌, ◌||◌, ℕ, List, [], ◌∷◌, Bool, true, false, cond, not, length, refl, ap, ◌∙◌, Option, Some, None, inl, inr, ◌⊎◌, eqb-true}
use Rattle.std.specs.List.{find, list_all}
use Rattle.std.proofs.lemmas.Bool.{and_parts}
use Rattle.std.proofs.lemmas.Option.{same_Some, none-some}
use Rattle.uefi_path_text.specs.text.Arguments.{is_argument}
use Rattle.uefi_path_text.specs.form.Words.{words, are_numbers}
use Rattle.uefi_path_text.specs.parse.Values.{word_number}
use Rattle.uefi_path_text.specs.write.Values.{writes_numbers}
use Rattle.uefi_path_text.specs.declared.form.words.Words.{Words}
use Rattle.uefi_path_text.specs.declared.form.words.Words.TheVariants.{Channel, Drive, Protocol, Ipv4Origin, Ipv6Origin, Default, Parity, StopBits, HeaderDigest, DataDigest, Authentication, Tcp, NoTopology, SasInterface, SasLocation, SasConnection, FlowControl, Mbr, Gpt, Zero, BootDevice}
use Rattle.uefi_path_text.proofs.reading.WordNumbers.{is_late}

-- What is found passes the test, and what all pass.
found_at : {A : Type 0} (b : Bool) (x w : A) (rest : Option A) → cond b (Some x) rest ≡ Some w
    → ((b ≡ true) × (x ≡ w)) ⊎ (rest ≡ Some w)
found_at true x w rest is = inl (refl, same_Some x w is)
found_at false x w rest is = inr is

pub found_passes : {A : Type 0} (p q : A → Bool) (xs : List A) (w : A) → find p xs ≡ Some w → list_all q xs ≡ true
    → (p w ≡ true) × (q w ≡ true)
found_passes p q [] w is all = absurd (none-some w is)
found_passes p q (x ∷ xs) w is all =
    let parts = and_parts (q x) (list_all q xs) all in
    elim (found_at (p x) x w (find p xs) is) [
      | inl here ↦ (ap p (sym here.1) ∙ here.0, ap q (sym here.1) ∙ parts.0)
      | inr later ↦ found_passes p q xs w later parts.1
    ]

-- A word is read as its number, can be an argument, and isn't empty.
abbrev is_number : Option ℕ → ℕ → Bool
is_number None n = false
is_number (Some m) n = m == n

abbrev pub is_own : Words → List ℕ × ℕ → Bool
is_own vocabulary word =
    is_number (word_number vocabulary word.0) word.1 && (is_argument word.0 && not (length word.0 == 0))

pub own_words : (vocabulary : Words) → list_all (is_own vocabulary) (words vocabulary) ≡ true
own_words Channel = refl
own_words Drive = refl
own_words Protocol = refl
own_words Ipv4Origin = refl
own_words Ipv6Origin = refl
own_words Default = refl
own_words Parity = refl
own_words StopBits = refl
own_words HeaderDigest = refl
own_words DataDigest = refl
own_words Authentication = refl
own_words Tcp = refl
own_words NoTopology = refl
own_words SasInterface = refl
own_words SasLocation = refl
own_words SasConnection = refl
own_words FlowControl = refl
own_words Mbr = refl
own_words Gpt = refl
own_words Zero = refl
own_words BootDevice = refl

number_is : (o : Option ℕ) (n : ℕ) → is_number o n ≡ true → o ≡ Some n
number_is None n is = cc
number_is (Some m) n is = ap Some (eqb-true m n is)

pub record IsOwn (vocabulary : Words) (word : List ℕ × ℕ) : Type 0 where
  pub number : word_number vocabulary word.0 ≡ Some word.1
  pub argument : is_argument word.0 ≡ true
  pub some : not (length word.0 == 0) ≡ true

pub own_word : (vocabulary : Words) (word : List ℕ × ℕ) → is_own vocabulary word ≡ true → IsOwn vocabulary word
own_word vocabulary word own =
    let parts = and_parts _ _ own in
    let others = and_parts _ _ parts.1 in
    record { number = number_is (word_number vocabulary word.0) word.1 parts.0; argument = others.0; some = others.1 }

-- Where numbers are written for words, they are read, and no word begins with a digit.
abbrev pub fits_numbers : Words → Bool
fits_numbers vocabulary = not (writes_numbers vocabulary) || (are_numbers vocabulary && list_all is_late (words vocabulary))

pub numbers_fit : (vocabulary : Words) → fits_numbers vocabulary ≡ true
numbers_fit Channel = refl
numbers_fit Drive = refl
numbers_fit Protocol = refl
numbers_fit Ipv4Origin = refl
numbers_fit Ipv6Origin = refl
numbers_fit Default = refl
numbers_fit Parity = refl
numbers_fit StopBits = refl
numbers_fit HeaderDigest = refl
numbers_fit DataDigest = refl
numbers_fit Authentication = refl
numbers_fit Tcp = refl
numbers_fit NoTopology = refl
numbers_fit SasInterface = refl
numbers_fit SasLocation = refl
numbers_fit SasConnection = refl
numbers_fit FlowControl = refl
numbers_fit Mbr = refl
numbers_fit Gpt = refl
numbers_fit Zero = refl
numbers_fit BootDevice = refl
