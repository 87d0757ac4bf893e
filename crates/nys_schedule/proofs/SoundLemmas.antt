-- What words write has payloads and lengths as their types keep them; and all that is known of a schedule's events.
use Rattle.std.proofs.Common.{◌≡◌, ℕ, zero, suc, ◌+◌, ◌-◌, ◌^◌, ◌<◌, ◌≤◌, ◌==◌, ◌&&◌, Bool, true, false, nat_lt, ltb-true, ℤ, pos, negsuc, List, [], ◌∷◌, drop, length, Option, Some, None, Result, Ok, Err, FitsSigned, w64, refl, ap, sym, subst, ◌∙◌, arith}
use Rattle.std.specs.Prelude.{All, codes, cond, filter_map, if◌then◌else◌, is_some, neg_ℤ, option_map}
use Rattle.std.specs.List.{cons_option, list_all}
use Rattle.std.specs.Str.{bytes_eq}
use Rattle.std.specs.Str.Parse.{digits_value, starts_with_minus}
use Rattle.std.proofs.lemmas.Bool.{ltb-false}
use Rattle.std.proofs.lemmas.Int.{ints}
use Rattle.std.proofs.lemmas.List.Elements.{All-cons, All-nil}
use Rattle.std.proofs.lemmas.Option.{cond_some}
use Rattle.nys_bare.specs.Schedule.{as_schedule}
use Rattle.nys_bare.specs.declared.fault.LineKind.{LineKind}
use Rattle.nys_bare.specs.declared.read.TheConstants.{MAX_EVENTS}
use Rattle.nys_bytes.specs.declared.content.Content.{Content}
use Rattle.nys_bytes.specs.declared.content.Content.TheVariants.{External, Message}
use Rattle.nys_bytes.specs.declared.payload.TheConstants.{MAX_NUMBERS}
use Rattle.nys_rules.proofs.CertificateLemmas.{both_true}
use Rattle.nys_rules.specs.Asked.{IsEvent}
use Rattle.nys_rules.specs.Events.{Plain}
use Rattle.nys_rules.specs.Events.Plain.{Input, Deliver, Flush, Exchange, Ask, Bytes, Bundle, Say, Steal, Wedge, Decide, Retire, Open}
use Rattle.nys_stmt.specs.declared.statement.Body.{Body}
use Rattle.nys_stmt.specs.declared.statement.Body.TheVariants as body
use Rattle.nys_stmt.specs.declared.statement.FilledKind.{FilledKind}
use Rattle.nys_stmt.specs.declared.statement.Statement.{Statement}
use Rattle.nys_stmt.specs.Lists.{AreLengths, IsLength}
use Rattle.nys_stmt.specs.Ranges.{IsBodySound, IsContentSound, IsPayload}
use Rattle.nys_text.specs.Lines.{words_of}
use Rattle.nys_text.specs.Numbers.{all_ints, int_of, int_values, is_numeral, num_of, numeral_below, only_num, payload_of}
use Rattle.nys_text.specs.Reading.{before, reading, then_more, told}
use Rattle.nys_text.specs.declared.reader.TextFault.{TextFault}
use Rattle.nys_text.specs.declared.reader.TextFault.TheVariants as text
use Rattle.nys_schedule.specs.declared.form.Form.{Form}
use Rattle.nys_schedule.specs.declared.keyword.Keyword.{Keyword}
use Rattle.nys_schedule.specs.declared.keyword.Keyword.TheVariants as key
use Rattle.nys_schedule.specs.declared.kind.Kind.{Kind}
use Rattle.nys_schedule.specs.declared.kind.Kind.TheVariants as kind
use Rattle.nys_schedule.specs.declared.stated.Stated.{Stated}
use Rattle.nys_schedule.specs.Choices.{◌>>=◌, all_write, each_of, upto, written}
use Rattle.nys_schedule.specs.Hexes.{hexes_of}
use Rattle.nys_schedule.specs.Keywords.{keyword_in}
use Rattle.nys_schedule.specs.Lines.{alone, bundle_of, bytes_of, input_of, packets_of, shaped, shaped_by, stated_of}
use Rattle.nys_schedule.specs.Lists.{list_of}
use Rattle.nys_schedule.specs.Schedules.{line_of, schedule}
use Rattle.nys_schedule.specs.Statements.{attested_of, body_of, content_of, filled_of, kind_of, length_of, lengths_of, message_of, slot_of, statement_of}
use Rattle.nys_schedule.proofs.ChoiceLemmas.{chained, mapped, of_four, of_three, of_two, untested, upto_most}
use Rattle.nys_schedule.proofs.EventLemmas.{line_is, passed}

-- ---- payloads

-- a numeral is below its limit
numeral_low : (limit : ℕ) (word : List ℕ) (n : ℕ) → numeral_below limit word ≡ Some n → n < limit
unfolding numeral_below
numeral_low limit word n e = by (is_numeral word && nat_lt (digits_value 10 word) limit) refl e
  where
    by : (b : Bool) → (is_numeral word && nat_lt (digits_value 10 word) limit) ≡ b → (if b then Some (digits_value 10 word) else None) ≡ Some n → n < limit
    by true is found =
        let low = ltb-true (digits_value 10 word) limit (both_true (is_numeral word) (nat_lt (digits_value 10 word) limit) is).1 in
        let same : digits_value 10 word ≡ n = cc in
        omega (arith, low, same)
    by false is found = absurd (cc)

-- a numeral fits
pos_fits : (n : ℕ) → n < 2 ^ 63 → FitsSigned w64 (pos n)
pos_fits n low = omega (arith, ints, low)

-- one below zero
neg_fits : (n : ℕ) → n < 2 ^ 63 + 1 → FitsSigned w64 (neg_ℤ (pos n))
neg_fits zero low = omega (arith, ints)
neg_fits (suc n) low = omega (arith, ints, low)

-- what a word is fits
int_fits : (word : List ℕ) (z : ℤ) → int_of word ≡ Some z → FitsSigned w64 z
unfolding int_of
int_fits word z e = by (starts_with_minus word) e
  where
    by : (b : Bool) → (if b then option_map (λ n. neg_ℤ (pos n)) (numeral_below (2 ^ 63 + 1) (drop 1 word)) else option_map pos (numeral_below (2 ^ 63) word)) ≡ Some z
        → FitsSigned w64 z
    by true is =
        let found = mapped (λ n. neg_ℤ (pos n)) (numeral_below (2 ^ 63 + 1) (drop 1 word)) z is in
        subst (FitsSigned w64) found.2 (neg_fits found.0 (numeral_low (2 ^ 63 + 1) (drop 1 word) found.0 found.1))
    by false is =
        let found = mapped pos (numeral_below (2 ^ 63) word) z is in
        subst (FitsSigned w64) found.2 (pos_fits found.0 (numeral_low (2 ^ 63) word found.0 found.1))

-- the values of words that are all numbers: as many as the words, and all fit
record AreValues (words : List (List ℕ)) (values : List ℤ) : Type 0 where
  long : length values ≡ length words
  fit : All (λ z. FitsSigned w64 z) values

-- so are those of words
values_are : (words : List (List ℕ)) → all_ints words ≡ true → AreValues words (int_values words)
values_are [] all = record { long = refl; fit = All-nil (λ z. FitsSigned w64 z) }
values_are (word ∷ words) all = by (int_of word) refl (both_true (is_some (int_of word)) (all_ints words) all) (λ rest. values_are words rest)
  where
    by : (found : Option ℤ) → int_of word ≡ found → (is_some (int_of word) ≡ true) × (all_ints words ≡ true)
        → (all_ints words ≡ true → AreValues words (int_values words)) → AreValues (word ∷ words) (int_values (word ∷ words))
    by None is both rest = absurd (let first = both.0 in cc)
    by (Some z) is both rest =
        let more = rest both.1 in
        let long = more.long in
        rw is (record {
          long = omega (arith, long);
          fit = All-cons (λ y. FitsSigned w64 y) z (int_values words) (int_fits word z is) more.fit;
        })

-- a payload that words write is one
pub payload_is : (words : List (List ℕ)) (payload : List ℤ) → payload_of words ≡ Some payload → IsPayload payload
payload_is [] payload e = absurd (cc)
payload_is (word ∷ words) payload e = by (nat_lt MAX_NUMBERS (length (word ∷ words))) refl (all_ints (word ∷ words)) refl e
  where
    by : (many : Bool) → nat_lt MAX_NUMBERS (length (word ∷ words)) ≡ many → (all : Bool) → all_ints (word ∷ words) ≡ all
        → (if many then None else if all then Some (int_values (word ∷ words)) else None) ≡ Some payload → IsPayload payload
    by true is all each found = absurd (cc)
    by false is false each found = absurd (cc)
    by false is true each found =
        let values = values_are (word ∷ words) each in
        let few = ltb-false MAX_NUMBERS (length (word ∷ words)) is in
        let long = values.long in
        let same : int_values (word ∷ words) ≡ payload = cc in
        subst IsPayload same (record { some = omega (arith, long); few = omega (arith, long, few); fit = values.fit })

-- ---- statements

-- a message
message_sound : (words : List (List ℕ)) (content : Content) → message_of words ≡ Some content → IsContentSound content
message_sound [] content e = absurd (cc)
message_sound (p ∷ []) content e = absurd (cc)
message_sound (p ∷ k ∷ numbers) content e =
    let made = of_three (upto 31 p) (upto 65535 k) (payload_of numbers) Message content e in
    subst IsContentSound made.6 (payload_is numbers made.2 made.5)

-- a content
content_sound : (words : List (List ℕ)) (content : Content) → content_of words ≡ Some content → IsContentSound content
unfolding content_of
content_sound [] content e = absurd (cc)
content_sound (word ∷ words) content e = by (bytes_eq word (codes "in")) (bytes_eq word (codes "msg")) e
  where
    by : (input message : Bool)
        → cond input (option_map External (payload_of words)) (cond message (message_of words) None) ≡ Some content → IsContentSound content
    by true message is =
        let made = mapped External (payload_of words) content is in subst IsContentSound made.2 (payload_is words made.0 made.1)
    by false true is = message_sound words content is
    by false false is = absurd (cc)

-- what is said of a content
filled_sound : (filled : FilledKind) (words : List (List ℕ)) (b : Body) → filled_of filled words ≡ Some b → IsBodySound b
unfolding filled_of
filled_sound filled [] b e = absurd (cc)
filled_sound filled (h ∷ []) b e = absurd (cc)
filled_sound filled (h ∷ s ∷ words) b e =
    let made = of_three (upto 31 h) (upto 1023 s) (content_of words) (body.Filled filled) b e in
    subst IsBodySound made.6 (content_sound words made.2 made.5)

-- an attestation
attested_sound : (words : List (List ℕ)) (b : Body) → attested_of words ≡ Some b → IsBodySound b
unfolding attested_of
attested_sound [] b e = absurd (cc)
attested_sound (p ∷ []) b e = absurd (cc)
attested_sound (p ∷ h ∷ []) b e = absurd (cc)
attested_sound (p ∷ h ∷ k ∷ numbers) b e =
    let made = of_four (upto 31 p) (upto 31 h) (upto 65535 k) (payload_of numbers) body.Attest b e in
    subst IsBodySound made.8 (payload_is numbers made.3 made.7)

-- a length, or none
length_is : (word : List ℕ) (member : Option ℕ) → length_of word ≡ Some member → IsLength member
length_is word member e = by (bytes_eq word (codes "x")) e
  where
    by : (b : Bool) → (if b then Some None else option_map Some (upto 1024 word)) ≡ Some member → IsLength member
    by true is k f = let none : None ≡ member = cc in absurd (let both = none ∙ f in cc)
    by false is k f =
        let made = mapped Some (upto 1024 word) member is in
        let both = made.2 ∙ f in
        let same : made.0 ≡ k = cc in subst (λ n. n ≤ 1024) same (upto_most 1024 word made.0 made.1)

-- what each of some words writes
written_all : {A : Type 0} (P : A → Type 0) (of_word : List ℕ → Option A) → ((word : List ℕ) (x : A) → of_word word ≡ Some x → P x)
    → (words : List (List ℕ)) → All P (written of_word words)
written_all P of_word each [] = All-nil P
written_all {A} P of_word each (word ∷ words) = by (of_word word) refl (written_all P of_word each words)
  where
    by : (o : Option A) → of_word word ≡ o → All P (written of_word words) → All P (cons_option o (written of_word words))
    by None is rest = rest
    by (Some x) is rest = All-cons P x (written of_word words) (each word x is) rest

-- is no more than there are words
written_few : {A : Type 0} (of_word : List ℕ → Option A) (words : List (List ℕ)) → length (written of_word words) ≤ length words
written_few of_word [] = omega arith
written_few {A} of_word (word ∷ words) = by (of_word word) (written_few of_word words)
  where
    by : (o : Option A) → length (written of_word words) ≤ length words
        → length (cons_option o (written of_word words)) ≤ length (word ∷ words)
    by None rest = omega (arith, rest)
    by (Some x) rest = omega (arith, rest)

-- the lengths of an opening
lengths_sound : (words : List (List ℕ)) (lengths : List (Option ℕ)) → lengths_of words ≡ Some lengths → AreLengths lengths
unfolding lengths_of
lengths_sound [] lengths e = absurd (cc)
lengths_sound (word ∷ words) lengths e = by (nat_lt 32 (length (word ∷ words))) refl e
  where
    by : (many : Bool) → nat_lt 32 (length (word ∷ words)) ≡ many
        → (if many then None else each_of length_of (word ∷ words)) ≡ Some lengths → AreLengths lengths
    by true is found = absurd (cc)
    by false is found =
        let passed = cond_some (all_write length_of (word ∷ words)) (written length_of (word ∷ words)) lengths found in
        let most = ltb-false 32 (length (word ∷ words)) is in
        let few = written_few length_of (word ∷ words) in
        subst AreLengths passed.1
        (record { few = omega (arith, most, few); each = written_all IsLength length_of length_is (word ∷ words) })

-- a body
body_sound : (named : Kind) (words : List (List ℕ)) (b : Body) → body_of named words ≡ Some b → IsBodySound b
body_sound (kind.Filled filled) words b e = filled_sound filled words b e
body_sound kind.Attest words b e = attested_sound words b e
body_sound kind.Ask words b e =
    subst IsBodySound (mapped (λ (x : ℕ × ℕ). body.Ask x.0 x.1) (slot_of 1023 words) b e).2 tt
body_sound kind.Wedge [] b e = let same : body.Wedge ≡ b = cc in subst IsBodySound same tt
body_sound kind.Wedge (word ∷ words) b e = absurd (cc)
body_sound kind.Frozen words b e =
    subst IsBodySound (mapped (λ (x : ℕ × ℕ). body.Frozen x.0 x.1) (slot_of 1024 words) b e).2 tt
body_sound kind.Open words b e =
    let made = mapped body.Open (lengths_of words) b e in subst IsBodySound made.2 (lengths_sound words made.0 made.1)

-- a statement
statement_sound : (words : List (List ℕ)) (statement : Statement) → statement_of words ≡ Some statement → IsBodySound statement.body
unfolding statement_of
statement_sound [] statement e = absurd (cc)
statement_sound (word ∷ []) statement e = absurd (cc)
statement_sound (word ∷ e ∷ words) statement is =
    let make : ℕ → Body → Statement = λ epoch b. record { epoch = epoch; body = b } in
    let named =
    chained (kind_of word) (λ x. upto 63 e >>= λ epoch. body_of x words >>= λ b. Some (make epoch b)) statement is in
    let made = of_two (upto 63 e) (body_of named.0 words) make statement named.2 in
    subst (λ (s : Statement). IsBodySound s.body) made.4 (body_sound named.0 words made.1 made.3)

-- ---- events

-- what the types of an event's parts keep
abbrev pub IsSoundEvent : Plain → Type 0
IsSoundEvent (Input h payload) = IsPayload payload
IsSoundEvent (Deliver k) = Unit {0}
IsSoundEvent Flush = Unit {0}
IsSoundEvent Exchange = Unit {0}
IsSoundEvent (Ask h) = Unit {0}
IsSoundEvent (Bytes to frame) = Unit {0}
IsSoundEvent (Say a to statement) = IsBodySound statement.body
IsSoundEvent (Bundle a to packets) = Unit {0}
IsSoundEvent (Steal a to statement) = IsBodySound statement.body
IsSoundEvent Wedge = Unit {0}
IsSoundEvent (Decide h) = Unit {0}
IsSoundEvent (Retire h) = Unit {0}
IsSoundEvent Open = Unit {0}

-- an input
input_sound : (words : List (List ℕ)) (event : Plain) → input_of words ≡ Some event → IsSoundEvent event
unfolding input_of
input_sound [] event e = absurd (cc)
input_sound (h ∷ numbers) event e =
    let made = of_two (num_of h) (payload_of numbers) Input event e in subst IsSoundEvent made.4 (payload_is numbers made.1 made.3)

-- bytes
bytes_sound : (words : List (List ℕ)) (event : Plain) → bytes_of words ≡ Some event → IsSoundEvent event
unfolding bytes_of
bytes_sound [] event e = absurd (cc)
bytes_sound (g ∷ []) event e = absurd (cc)
bytes_sound (g ∷ digits ∷ []) event e = subst IsSoundEvent (of_two (num_of g) (hexes_of digits) Bytes event e).4 tt
bytes_sound (g ∷ digits ∷ word ∷ words) event e = absurd (cc)

-- a statement to a list
stated_sound : (words : List (List ℕ)) (stated : Stated) → stated_of words ≡ Some stated → IsBodySound stated.statement.body
unfolding stated_of
stated_sound [] stated e = absurd (cc)
stated_sound (a ∷ []) stated e = absurd (cc)
stated_sound (a ∷ list ∷ words) stated e =
    let make : ℕ → List ℕ → Statement → Stated = λ party to statement. record { a = party; to = to; statement = statement } in
    let made = of_three (num_of a) (list_of list) (statement_of words) make stated e in
    subst (λ (s : Stated). IsBodySound s.statement.body) made.6 (statement_sound words made.2 made.5)

-- a bundle
bundle_sound : (words : List (List ℕ)) (event : Plain) → bundle_of words ≡ Some event → IsSoundEvent event
unfolding bundle_of
bundle_sound [] event e = absurd (cc)
bundle_sound (a ∷ []) event e = absurd (cc)
bundle_sound (a ∷ list ∷ words) event e =
    subst IsSoundEvent (of_three (num_of a) (list_of list) (packets_of words) Bundle event e).6 tt

-- a keyword alone
alone_sound : (said : Plain) (words : List (List ℕ)) (event : Plain) → IsSoundEvent said → alone said words ≡ Some event → IsSoundEvent event
alone_sound said [] event sound e = let same : said ≡ event = cc in subst IsSoundEvent same sound
alone_sound said (word ∷ words) event sound e = absurd (cc)

-- what words say behind a keyword
keyword_sound : (keyword : Keyword) (words : List (List ℕ)) (event : Plain) → shaped_by keyword words ≡ Some event → IsSoundEvent event
keyword_sound key.Input words event e = input_sound words event e
keyword_sound key.Deliver words event e = subst IsSoundEvent (mapped Deliver (only_num words) event e).2 tt
keyword_sound key.Flush words event e = alone_sound Flush words event tt e
keyword_sound key.Exchange words event e = alone_sound Exchange words event tt e
keyword_sound key.Ask words event e = subst IsSoundEvent (mapped Ask (only_num words) event e).2 tt
keyword_sound key.Bytes words event e = bytes_sound words event e
keyword_sound key.Say words event e =
    let made = mapped (λ (s : Stated). Say s.a s.to s.statement) (stated_of words) event e in
    subst IsSoundEvent made.2 (stated_sound words made.0 made.1)
keyword_sound key.Bundle words event e = bundle_sound words event e
keyword_sound key.Steal words event e =
    let made = mapped (λ (s : Stated). Steal s.a s.to s.statement) (stated_of words) event e in
    subst IsSoundEvent made.2 (stated_sound words made.0 made.1)
keyword_sound key.Wedge words event e = alone_sound Wedge words event tt e
keyword_sound key.Decide words event e = subst IsSoundEvent (mapped Decide (only_num words) event e).2 tt
keyword_sound key.Retire words event e = subst IsSoundEvent (mapped Retire (only_num words) event e).2 tt
keyword_sound key.Open words event e = alone_sound Open words event tt e

-- the words of a line
shaped_sound : (form : Form) (words : List (List ℕ)) (event : Plain) → shaped form words ≡ Some event → IsSoundEvent event
unfolding shaped
shaped_sound form [] event e = absurd (cc)
shaped_sound form (word ∷ words) event e =
    let keyword = chained (keyword_in form word) (λ keyword. shaped_by keyword words) event e in
    keyword_sound keyword.0 words event keyword.2

-- ---- schedules

-- what is known of an event that was read
pub record IsRead (hosts : ℕ) (liars : ℕ → Bool) (event : Plain) : Type 0 where
  pub is : IsEvent hosts liars event
  pub sound : IsSoundEvent event

-- of the event of a line that is no fault
line_read : (form : Form) (hosts : ℕ) (liars : ℕ → Bool) (words : List (List ℕ)) (event : Plain)
    → line_of form hosts liars words ≡ Ok event → IsRead hosts liars event
line_read form hosts liars words event e = record {
  is = line_is form hosts liars words event e;
  sound = shaped_sound form words event (passed hosts liars (shaped form words) event e).there;
}

-- what is read of lines is of each of them
all_read : {A K : Type 0} (P : A → Type 0) (says : List (List ℕ) → Result A K) → ((words : List (List ℕ)) (x : A) → says words ≡ Ok x → P x)
    → (most : ℕ) (lines : List (ℕ × List ℕ)) (items : List A) → reading says most lines ≡ Ok items → All P items
all_read P says each most [] items e = let same : [] ≡ items = cc in subst (All P) same (All-nil P)
all_read {A} {K} P says each most (line ∷ lines) items e =
    by (says (words_of line.1)) refl e (λ rest is. all_read P says each (most - 1) lines rest is)
  where
    Later : Type 0
    Later = (more : List A) → reading says (most - 1) lines ≡ Ok more → All P more

    by : (said : Result A K) → says (words_of line.1) ≡ said → then_more most line.0 said (reading says (most - 1) lines) ≡ Ok items → Later → All P items
    by (Err kind) is done later = absurd (cc)
    by (Ok x) is done later = last (most == 0) (reading says (most - 1) lines) refl done
      where
        last : (full : Bool) (rest : Result (List A) (TextFault K)) → reading says (most - 1) lines ≡ rest
            → (if full then Err text.TooMany else before x rest) ≡ Ok items → All P items
        last true rest read is_done = absurd (cc)
        last false (Err fault) read is_done = absurd (cc)
        last false (Ok xs) read is_done =
            let same : x ∷ xs ≡ items = cc in subst (All P) same (All-cons P x xs (each (words_of line.1) x is) (later xs read))

-- of all events of a schedule
pub schedule_events : (form : Form) (hosts : ℕ) (liars : ℕ → Bool) (bytes : List ℕ) (events : List Plain)
    → schedule form hosts liars bytes ≡ Ok events → All (IsRead hosts liars) events
unfolding schedule
schedule_events form hosts liars bytes events e = by (reading (line_of form hosts liars) MAX_EVENTS (told bytes)) refl e
  where
    by : (read : Result (List Plain) (TextFault LineKind)) → reading (line_of form hosts liars) MAX_EVENTS (told bytes) ≡ read
        → as_schedule read ≡ Ok events → All (IsRead hosts liars) events
    by (Err fault) is done = absurd (cc)
    by (Ok items) is done =
        let same : items ≡ events = cc in
        subst (All (IsRead hosts liars)) same
        (all_read (IsRead hosts liars) (line_of form hosts liars) (line_read form hosts liars) MAX_EVENTS (told bytes) items is)
