-- What the grammar alone tells of an event: its lists are of parties, and it is fit.
use Rattle.std.proofs.Common.{◌≡◌, ◌≤◌, ◌*◌, ◌&&◌, ℕ, List, [], ◌∷◌, Some, Result, Ok, Err, subst, length, nat_le, arith}
use Rattle.std.specs.List.{list_all, slice_split}
use Rattle.std.proofs.lemmas.Bool.{leb-true}
use Rattle.std.proofs.lemmas.Option.{cond_some, same_Some}
use Rattle.hex.specs.Hex.{decode_of}
use Rattle.hex.specs.declared.error.FromHexError.{FromHexError}
use Rattle.hex.proofs.HexLemmas.{decode_of-ok}
use Rattle.nys_text.specs.Numbers.{num_of, only_num, payload_of}
use Rattle.nys_stmt.specs.declared.statement.Statement.{Statement}
use Rattle.nys_stmt.specs.Ranges.{IsInRange}
use Rattle.nys_rules.proofs.CertificateLemmas.{both_true}
use Rattle.nys_rules.specs.Events.{Plain}
use Rattle.nys_rules.specs.Events.Plain.{Input, Deliver, Flush, Exchange, Ask, Bytes, Bundle, Say, Steal, Wedge, Decide, Retire, Open}
use Rattle.nys_rules.specs.Parties.{AreParties}
use Rattle.nys_schedule.specs.declared.form.Form.{Form}
use Rattle.nys_schedule.specs.declared.hexes.TheConstants.{MAX_DIGITS}
use Rattle.nys_schedule.specs.declared.keyword.Keyword.{Keyword}
use Rattle.nys_schedule.specs.declared.keyword.Keyword.TheVariants as key
use Rattle.nys_schedule.specs.declared.stated.Stated.{Stated}
use Rattle.nys_rules.specs.Asked.{IsFit}
use Rattle.nys_schedule.specs.Choices.{nums_of}
use Rattle.nys_schedule.specs.Hexes.{bytes_in, hexes_of}
use Rattle.nys_schedule.specs.Keywords.{keyword_in}
use Rattle.nys_schedule.specs.Lines.{alone, bundle_of, bytes_of, input_of, packets_of, shaped, shaped_by, stated_of}
use Rattle.nys_schedule.specs.Lists.{is_any_party, is_comma, list_of, parties_of, rise_from}
use Rattle.nys_schedule.specs.Statements.{statement_of}
use Rattle.nys_schedule.proofs.ChoiceLemmas.{chained, each_some, mapped, of_three, of_two, tested}
use Rattle.nys_schedule.proofs.ListLemmas.{pairs_rise, parties_within}
use Rattle.nys_schedule.proofs.RangeLemmas.{statement_in_range}

-- the list of an event, where it has one, is one of parties
abbrev pub HasList : Plain → Type 0
HasList (Input h payload) = Unit {0}
HasList (Deliver k) = Unit {0}
HasList Flush = Unit {0}
HasList Exchange = Unit {0}
HasList (Ask h) = Unit {0}
HasList (Bytes to frame) = Unit {0}
HasList (Say a to statement) = AreParties to
HasList (Bundle a to packets) = AreParties to
HasList (Steal a to statement) = AreParties to
HasList Wedge = Unit {0}
HasList (Decide h) = Unit {0}
HasList (Retire h) = Unit {0}
HasList Open = Unit {0}

-- what the grammar alone tells
pub record IsShaped (event : Plain) : Type 0 where
  pub list : HasList event
  pub fit : IsFit event

-- numbers that are parties
parties_are : (ns to : List ℕ) → parties_of ns ≡ Some to → AreParties to
parties_are [] to e = absurd (cc)
parties_are (n ∷ ns) to e =
    let passed = cond_some (rise_from n ns && list_all is_any_party (n ∷ ns)) (n ∷ ns) to e in
    let tests = both_true (rise_from n ns) (list_all is_any_party (n ∷ ns)) passed.0 in
    subst AreParties passed.1
    (record { some = omega arith; rising = pairs_rise n ns tests.0; each = parties_within (n ∷ ns) tests.1 })

-- a list that a word is
list_is : (word to : List ℕ) → list_of word ≡ Some to → AreParties to
unfolding list_of
list_is word to e =
    let numbers = chained (nums_of (slice_split is_comma word)) parties_of to e in
    parties_are numbers.0 to numbers.2

-- bytes that are there were decoded
decoded_are : (r : Result (List ℕ) FromHexError) (frame : List ℕ) → bytes_in r ≡ Some frame
    → r ≡ Ok frame
decoded_are (Ok bytes) frame e = cc
decoded_are (Err fault) frame e = absurd (cc)

-- a frame that a word writes
frame_is : (word frame : List ℕ) → hexes_of word ≡ Some frame
    → (1 ≤ length frame) × (length frame ≤ 65536)
unfolding hexes_of
frame_is word frame e =
    let passed =
    tested (nat_le 2 (length word) && nat_le (length word) MAX_DIGITS) (bytes_in (decode_of word)) frame e in
    let tests = both_true (nat_le 2 (length word)) (nat_le (length word) MAX_DIGITS) passed.0 in
    let low : 2 ≤ length word = leb-true 2 (length word) tests.0 in
    let high : length word ≤ 131072 = leb-true (length word) MAX_DIGITS tests.1 in
    let twice : length word ≡ 2 * length frame =
    (decode_of-ok word frame (decoded_are (decode_of word) frame passed.1)).2 in
    (omega (arith, low, twice), omega (arith, high, twice))

-- an input that words say
input_is : (words : List (List ℕ)) (event : Plain) → input_of words ≡ Some event → IsShaped event
unfolding input_of
input_is [] event e = absurd (cc)
input_is (h ∷ numbers) event e =
    let made = of_two (num_of h) (payload_of numbers) Input event e in
    subst IsShaped made.4 (record { list = tt; fit = tt })

-- bytes that words say
bytes_are : (words : List (List ℕ)) (event : Plain) → bytes_of words ≡ Some event → IsShaped event
unfolding bytes_of
bytes_are [] event e = absurd (cc)
bytes_are (g ∷ []) event e = absurd (cc)
bytes_are (g ∷ digits ∷ []) event e =
    let made = of_two (num_of g) (hexes_of digits) Bytes event e in
    subst IsShaped made.4 (record { list = tt; fit = frame_is digits made.1 made.3 })
bytes_are (g ∷ digits ∷ word ∷ words) event e = absurd (cc)

-- a statement to a list of parties
abbrev IsStated : Stated → Type 0
IsStated stated = AreParties stated.to × IsInRange stated.statement

-- a statement to a list that words say
stated_is : (words : List (List ℕ)) (stated : Stated) → stated_of words ≡ Some stated → IsStated stated
unfolding stated_of
stated_is [] stated e = absurd (cc)
stated_is (a ∷ []) stated e = absurd (cc)
stated_is (a ∷ list ∷ words) stated e =
    let make : ℕ → List ℕ → Statement → Stated =
    λ party to statement. record { a = party; to = to; statement = statement } in
    let made = of_three (num_of a) (list_of list) (statement_of words) make stated e in
    subst IsStated made.6 (list_is list made.1 made.4, statement_in_range words made.2 made.5)

-- packets that words name
packets_are : (words : List (List ℕ)) (packets : List ℕ) → packets_of words ≡ Some packets
    → 1 ≤ length packets
packets_are [] packets e = absurd (cc)
packets_are (word ∷ words) packets e = each_some num_of word words packets e

-- a bundle that words say
bundle_is : (words : List (List ℕ)) (event : Plain) → bundle_of words ≡ Some event → IsShaped event
unfolding bundle_of
bundle_is [] event e = absurd (cc)
bundle_is (a ∷ []) event e = absurd (cc)
bundle_is (a ∷ list ∷ words) event e =
    let made = of_three (num_of a) (list_of list) (packets_of words) Bundle event e in
    subst IsShaped made.6 (record { list = list_is list made.1 made.4; fit = packets_are words made.2 made.5 })

-- a keyword alone
alone_is : (said : Plain) (words : List (List ℕ)) (event : Plain) → alone said words ≡ Some event
    → said ≡ event
alone_is said [] event e = same_Some said event e
alone_is said (word ∷ words) event e = absurd (cc)

-- what words say behind a keyword
shaped_by_is : (keyword : Keyword) (words : List (List ℕ)) (event : Plain)
    → shaped_by keyword words ≡ Some event → IsShaped event
shaped_by_is key.Input words event e = input_is words event e
shaped_by_is key.Deliver words event e =
    subst IsShaped (mapped Deliver (only_num words) event e).2 (record { list = tt; fit = tt })
shaped_by_is key.Flush words event e =
    subst IsShaped (alone_is Flush words event e) (record { list = tt; fit = tt })
shaped_by_is key.Exchange words event e =
    subst IsShaped (alone_is Exchange words event e) (record { list = tt; fit = tt })
shaped_by_is key.Ask words event e =
    subst IsShaped (mapped Ask (only_num words) event e).2 (record { list = tt; fit = tt })
shaped_by_is key.Bytes words event e = bytes_are words event e
shaped_by_is key.Say words event e =
    let made = mapped (λ (s : Stated). Say s.a s.to s.statement) (stated_of words) event e in
    let parts = stated_is words made.0 made.1 in
    subst IsShaped made.2 (record { list = parts.0; fit = parts.1 })
shaped_by_is key.Bundle words event e = bundle_is words event e
shaped_by_is key.Steal words event e =
    let made = mapped (λ (s : Stated). Steal s.a s.to s.statement) (stated_of words) event e in
    let parts = stated_is words made.0 made.1 in
    subst IsShaped made.2 (record { list = parts.0; fit = parts.1 })
shaped_by_is key.Wedge words event e =
    subst IsShaped (alone_is Wedge words event e) (record { list = tt; fit = tt })
shaped_by_is key.Decide words event e =
    subst IsShaped (mapped Decide (only_num words) event e).2 (record { list = tt; fit = tt })
shaped_by_is key.Retire words event e =
    subst IsShaped (mapped Retire (only_num words) event e).2 (record { list = tt; fit = tt })
shaped_by_is key.Open words event e =
    subst IsShaped (alone_is Open words event e) (record { list = tt; fit = tt })

-- what the words of a line say
pub shaped_is : (form : Form) (words : List (List ℕ)) (event : Plain)
    → shaped form words ≡ Some event → IsShaped event
unfolding shaped
shaped_is form [] event e = absurd (cc)
shaped_is form (word ∷ words) event e =
    let keyword = chained (keyword_in form word) (λ keyword. shaped_by keyword words) event e in
    shaped_by_is keyword.0 words event keyword.2
