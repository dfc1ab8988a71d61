-- What `uefi_audit verify --json` prints of a log that isn't judged.
use Rattle.std.specs.Prelude.{ℕ, List, [], ◌∷◌, codes}
use Rattle.audit_text.specs.json.Json.{Json, null, string, array, object}
use Rattle.audit_text.specs.json.Line.{json_line}
use Rattle.audit_text.specs.declared.json.unjudged.NotJudged.{NotJudged}
use Rattle.audit_text.specs.declared.json.unjudged.NotJudged.TheVariants.{Unread, MalformedQuote, NoNonce, UnknownHash, TooManyAlgorithms, LeftOver, NothingMeasured, NoBank, Undetermined, NoPcr}

-- Why it isn't.
abbrev pub reason_text : NotJudged → List ℕ
reason_text Unread = codes "unread"
reason_text MalformedQuote = codes "malformed quote"
reason_text NoNonce = codes "no nonce"
reason_text UnknownHash = codes "unknown hash"
reason_text TooManyAlgorithms = codes "many algorithms"
reason_text LeftOver = codes "trailing bytes"
reason_text NothingMeasured = codes "nothing measured"
reason_text NoBank = codes "no bank"
reason_text Undetermined = codes "undetermined"
reason_text NoPcr = codes "no PCR"

-- The object: nothing agrees or is covered, why, and the name of the log.
unfoldable pub unjudged_json : List ℕ → NotJudged → Json
unjudged_json name why =
    object (
    (codes "agrees", null)
    ∷ (codes "covered", null)
    ∷ (codes "failed", array (string (reason_text why) ∷ []))
    ∷ (codes "log", string name)
    ∷ (codes "not_covered", null) ∷ [])

-- Its line.
abbrev pub unjudged_line : List ℕ → NotJudged → List ℕ
unjudged_line name why = json_line (unjudged_json name why)
