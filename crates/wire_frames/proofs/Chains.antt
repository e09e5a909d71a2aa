-- Fields one behind another: each may depend on the numbers before it.
use Rattle.std.proofs.Common.{◌≡◌, ℕ, suc, ◌+◌, ◌-◌, ◌^◌, ◌<◌, ◌≤◌, List, [], ◌++◌, length, take, drop, refl, sym, subst, ap, ap₂, ◌∙◌, arith, append_assoc, length-append, length-drop}
use Rattle.std.specs.Prelude.{Err}
use Rattle.std.specs.Int.{bytes_high_first}
use Rattle.std.proofs.Math.Seq.{take-add, take-append_seam, drop-append_seam}
use Rattle.std.proofs.lemmas.List.{append-nil, length-take, take-append-drop, take-append-le, take_all}
use Rattle.wire_frames.specs.declared.field.Number.{Number}
use Rattle.wire_frames.specs.Field.{IsField, IsNumber}
use Rattle.wire_frames.specs.Form.{Starts, StopsWithin, Reads}
use Rattle.wire_frames.proofs.Digits.{number, number-digits}
use Rattle.wire_frames.proofs.NumberPrefixes.{length_number}
use Rattle.wire_frames.proofs.Prefixes.{starts-prefix, starts-whole, stops-at}
use Rattle.std.proofs.lemmas.List.{take-take}

-- a number of a field, and then what is to follow that number
pub record Then {A : Type 0} (f : Number) (next : ℕ → List ℕ → A → Type 0) (bytes : List ℕ) (value : A) : Type 0 where
  pub number : ℕ
  pub prefix : List ℕ
  pub rest : List ℕ
  pub split : bytes ≡ prefix ++ rest
  pub field : IsNumber f prefix number
  pub goes_on : next number rest value

-- the one from its parts
pub field_then : {A : Type 0} {f : Number} {next : ℕ → List ℕ → A → Type 0} {v : ℕ} {prefix : List ℕ} (rest : List ℕ) (value : A) → IsNumber f prefix v → next v rest value
    → Then f next (prefix ++ rest) value
field_then {A} {f} {next} {v} {prefix} rest value field goes_on = record { number = v; prefix = prefix; rest = rest; split = refl; field = field; goes_on = goes_on }

-- nothing more: the value is known
pub record IsDone {A : Type 0} (known : A) (bytes : List ℕ) (value : A) : Type 0 where
  pub none : bytes ≡ []
  pub same : known ≡ value

-- there is a spelling with some number of the field, if there is one of what follows it
pub some_spelling : {A : Type 0} (f : Number) (next : ℕ → List ℕ → A → Type 0) (v : ℕ) → f.least ≤ v → v ≤ f.most → Starts (next v) [] → Starts (Then f next) []
some_spelling f next v least most s = record {
  rest = bytes_high_first f.width v ++ s.rest;
  value = s.value;
  whole = record {
    number = v;
    prefix = bytes_high_first f.width v;
    rest = s.rest;
    split = refl;
    field = record { least = least; most = most; spelled = refl };
    goes_on = s.whole;
  };
}

-- at the end there is one, of no bytes
pub no_more : {A : Type 0} (known : A) → Starts (IsDone known) []
no_more known = record { rest = []; value = known; whole = record { none = refl; same = refl } }

-- so many bytes are read, and what is left of the form is another
pub record Leads {A : Type 0} (Form Left : List ℕ → A → Type 0) (at : ℕ) (bytes : List ℕ) : Type 0 where
  pub reach : at ≤ length bytes
  pub into : (tail : List ℕ) (value : A) → Form (take at bytes ++ tail) value → Left tail value
  pub back : (tail : List ℕ) (value : A) → Left tail value → Form (take at bytes ++ tail) value

-- no byte is read yet: the form may be said as a chain of fields
pub leads-start : {A : Type 0} {F G : List ℕ → A → Type 0} (bytes : List ℕ) → ((l : List ℕ) (value : A) → F l value → G l value)
    → ((l : List ℕ) (value : A) → G l value → F l value) → Leads F G 0 bytes
leads-start bytes into back = record { reach = omega arith; into = into; back = back }

-- a field's number and the bytes behind it are told by the bytes
pub same_number : (f : Number) (prefix prefix' rest rest' : List ℕ) (v v' : ℕ) → IsField f → IsNumber f prefix v → IsNumber f prefix' v' → prefix ++ rest ≡ prefix' ++ rest'
    → (v ≡ v') × (rest ≡ rest')
same_number f prefix prefix' rest rest' v v' field h h' e =
    let long = length_number f prefix v h ∙ sym (length_number f prefix' v' h') in
    let prefixes : prefix ≡ prefix' = sym (take-append_seam prefix rest) ∙ ap₂ take long e ∙ take-append_seam prefix' rest' in
    let rests : rest ≡ rest' = sym (drop-append_seam prefix rest) ∙ ap₂ drop long e ∙ drop-append_seam prefix' rest' in
    let below : v < 256 ^ f.width = omega (arith, h.most, field.fits) in
    let below' : v' < 256 ^ f.width = omega (arith, h'.most, field.fits) in
    (sym (number-digits f.width v below) ∙ ap number (sym h.spelled ∙ prefixes ∙ h'.spelled) ∙ number-digits f.width v' below', rests)

-- a field is read
pub leads-on : {A : Type 0} {F : List ℕ → A → Type 0} {f : Number} {next : ℕ → List ℕ → A → Type 0} {at : ℕ} {bytes : List ℕ} {v : ℕ} → IsField f
    → Leads F (Then f next) at bytes → IsNumber f (take f.width (drop at bytes)) v → Leads F (next v) (at + f.width) bytes
leads-on {A} {F} {f} {next} {at} {bytes} {v} field leads h =
    let prefix = take f.width (drop at bytes) in
    let long : length prefix ≡ f.width = length_number f prefix v h in
    let reach : f.width ≤ length (drop at bytes) = omega (arith, long, length-take f.width (drop at bytes)) in
    let split : (tail : List ℕ) → take (at + f.width) bytes ++ tail ≡ take at bytes ++ (prefix ++ tail) =
    λ tail. ap (λ (l : List ℕ). l ++ tail) (take-add at f.width bytes) ∙ append_assoc (take at bytes) prefix tail in
    record {
      reach = omega (arith, reach, length-drop at bytes, leads.reach);
      into = λ tail value whole.
          let parts = leads.into (prefix ++ tail) value (subst (λ (l : List ℕ). F l value) (split tail) whole) in
          let same = same_number f prefix parts.prefix tail parts.rest v parts.number field h parts.field parts.split in
          subst (λ (l : List ℕ). next v l value) (sym same.1) (subst (λ (n : ℕ). next n parts.rest value) (sym same.0) parts.goes_on);
      back = λ tail value goes_on.
          subst (λ (l : List ℕ). F l value) (sym (split tail))
          (leads.back (prefix ++ tail) value record { number = v; prefix = prefix; rest = tail; split = refl; field = h; goes_on = goes_on });
    }

-- the bytes behind a field's place, up to another
take-behind : (at place : ℕ) (bytes : List ℕ) → at ≤ place → take place bytes ≡ take at bytes ++ take (place - at) (drop at bytes)
take-behind at place bytes h =
    let whole : place ≡ at + (place - at) = omega arith in
    ap (λ (n : ℕ). take n bytes) whole ∙ take-add at (place - at) bytes

-- bytes that begin a field, and what follows it, and are no more than the field, begin the field
starts-field : {A : Type 0} (f : Number) (next : ℕ → List ℕ → A → Type 0) (part rest : List ℕ) (value : A) → length part ≤ f.width → Then f next (part ++ rest) value
    → Starts (IsNumber f) part
starts-field f next part rest value short h =
    let long = length_number f h.prefix h.number h.field in
    let same : part ≡ take (length part) h.prefix =
    sym (take-append_seam part rest) ∙ ap (take (length part)) h.split ∙ take-append-le (length part) h.prefix h.rest (omega arith) in
    let whole = starts-whole (IsNumber f) h.prefix h.number h.field in
    let again : h.prefix ≡ part ++ drop (length part) h.prefix =
    sym (take-append-drop (length part) h.prefix) ∙ ap (λ (l : List ℕ). l ++ drop (length part) h.prefix) (sym same) in
    starts-prefix (IsNumber f) part (drop (length part) h.prefix) (subst (Starts (IsNumber f)) again whole)

-- where a field is right up to a place, so is the form that leads to it
stop-begins : {A : Type 0} (F : List ℕ → A → Type 0) (f : Number) (next : ℕ → List ℕ → A → Type 0) (at : ℕ) (bytes part : List ℕ)
    → Leads F (Then f next) at bytes → ((v : ℕ) → f.least ≤ v → v ≤ f.most → Starts (next v) []) → Starts (IsNumber f) part
    → Starts F (take at bytes ++ part)
stop-begins F f next at bytes part leads some s =
    let more = some s.value s.whole.least s.whole.most in
    record {
      rest = s.rest ++ more.rest;
      value = more.value;
      whole = simp append_assoc (simp append_assoc at (leads.back ((part ++ s.rest) ++ more.rest) more.value record {
        number = s.value;
        prefix = part ++ s.rest;
        rest = more.rest;
        split = refl;
        field = s.whole;
        goes_on = more.whole;
      }));
    }

-- a field stops being right: the form does
pub leads-stop : {A : Type 0} {F : List ℕ → A → Type 0} {f : Number} {next : ℕ → List ℕ → A → Type 0} {at : ℕ} {bytes : List ℕ} {place : ℕ}
    → Leads F (Then f next) at bytes → ((v : ℕ) → f.least ≤ v → v ≤ f.most → Starts (next v) []) → StopsWithin (IsNumber f) at f.width bytes place
    → Reads F bytes (Err place)
leads-stop {A} {F} {f} {next} {at} {bytes} {place} leads some w =
    let i = place - at in
    let field = take f.width (drop at bytes) in
    let enough = length-take f.width (drop at bytes) in
    let behind = length-drop at bytes in
    let short : i ≤ f.width = omega (arith, w.before) in
    let here : take i field ≡ take i (drop at bytes) = take-take i f.width (drop at bytes) short in
    let up_to : take place bytes ≡ take at bytes ++ take i field = take-behind at place bytes w.after ∙ ap (λ (l : List ℕ). take at bytes ++ l) (sym here) in
    let within : place ≤ length bytes = omega (arith, w.after, w.stops.within, enough, behind, leads.reach) in
    let begins = subst (Starts F) (sym up_to) (stop-begins F f next at bytes (take i field) leads some w.stops.begins) in
    let at_field : (n : ℕ) → i < n → n ≤ f.width → n ≤ length (drop at bytes) → (rest : List ℕ) (value : A) → F (take at bytes ++ (take n field ++ rest)) value → ⊥ =
    λ n more le inside rest value whole.
    let long : length (take n field) ≤ f.width = omega (arith, length-take n field) in
    w.stops.longest n more (omega (arith, enough)) (starts-field f next (take n field) rest value long (leads.into (take n field ++ rest) value whole)) in (
      stops-at F bytes place within begins
          (λ inside s.
          let n = suc i in
          let next_is : suc place - at ≡ suc i = omega (arith, w.after) in
          let there : take n field ≡ take n (drop at bytes) = take-take n f.width (drop at bytes) (omega (arith, w.before, w.after)) in
          let split : take (suc place) bytes ≡ take at bytes ++ take n field =
          take-behind at (suc place) bytes (omega (arith, w.after)) ∙ ap (λ (m : ℕ). take at bytes ++ take m (drop at bytes)) next_is ∙ ap (λ (l : List ℕ). take at bytes ++ l) (sym there) in
          let whole : F (take at bytes ++ (take n field ++ s.rest)) s.value = subst (λ (l : List ℕ). F l s.value) (ap (λ (l : List ℕ). l ++ s.rest) split ∙ append_assoc (take at bytes) (take n field) s.rest) s.whole in
          at_field n (omega arith) (omega (arith, w.before, w.after)) (omega (arith, behind, w.after)) s.rest s.value whole),
      λ value whole.
          let parts = leads.into (drop at bytes) value (subst (λ (l : List ℕ). F l value) (sym (take-append-drop at bytes)) whole) in
          let long = length_number f parts.prefix parts.number parts.field in
          let inside : f.width ≤ length (drop at bytes) = omega (arith, ap length parts.split, length-append parts.prefix parts.rest, long) in
          let again : bytes ≡ take at bytes ++ (take f.width field ++ drop f.width (drop at bytes)) =
          sym (ap (λ (l : List ℕ). take at bytes ++ (l ++ drop f.width (drop at bytes))) (take-take f.width f.width (drop at bytes) (omega arith))
          ∙ ap (λ (l : List ℕ). take at bytes ++ l) (take-append-drop f.width (drop at bytes)) ∙ take-append-drop at bytes) in
          at_field f.width (omega (arith, w.before, w.after)) (omega arith) inside (drop f.width (drop at bytes)) value (subst (λ (l : List ℕ). F l value) again whole),
    )

-- all fields are read, and there is nothing more
pub leads-done : {A : Type 0} {F : List ℕ → A → Type 0} {known : A} {at : ℕ} {bytes : List ℕ} → Leads F (IsDone known) at bytes → length bytes ≤ at → F bytes known
leads-done {A} {F} {known} {at} {bytes} leads all =
    subst (λ (l : List ℕ). F l known) (append-nil (take at bytes) ∙ take_all at bytes all) (leads.back [] known record { none = refl; same = refl })
