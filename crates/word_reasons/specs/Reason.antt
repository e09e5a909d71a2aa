-- What a reason says of words that have no form.
use Rattle.std.specs.Prelude.{◌≡◌, ◌||◌, Bool, true, codes, None}
use Rattle.std.specs.Str.{bytes_eq}
use Rattle.clap.specs.Words.{Text}
use Rattle.word_reasons.specs.declared.reason.Amount.{Amount}
use Rattle.word_reasons.specs.declared.reason.Amount.TheVariants.{Limit, Of, Times, Plus}
use Rattle.word_reasons.specs.declared.reason.Named.{Named}
use Rattle.word_reasons.specs.declared.reason.Reason.{Reason}
use Rattle.word_reasons.specs.declared.reason.Reason.TheVariants.{Unread, Compared}

-- an option whose value says what is looked for
unfoldable pub is_secret : Text → Bool
is_secret name = bytes_eq name (codes "key") || (bytes_eq name (codes "block") || bytes_eq name (codes "more"))

-- of such an option no number is shown
abbrev pub HidesNumber : Named → Type 0
HidesNumber named = is_secret named.name.now ≡ true → named.number ≡ None

-- nor in an amount
abbrev pub HidesAmount : Amount → Type 0
HidesAmount (Limit n) = Unit {0}
HidesAmount (Of named) = HidesNumber named
HidesAmount (Times first second) = HidesNumber first × HidesNumber second
HidesAmount (Plus first second) = HidesNumber first × HidesNumber second

-- a reason shows no value of an option that says what is looked for
abbrev pub Hides : Reason → Type 0
Hides (Unread name text wanted) = is_secret name.now ≡ true → text ≡ None
Hides (Compared left how right) = HidesAmount left × HidesAmount right
Hides _ = Unit {0}
