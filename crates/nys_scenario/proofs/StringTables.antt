-- Each string that stands under a key of a document is no longer than the document.
use Rattle.std.proofs.Common.{◌≡◌, ℕ, zero, suc, ◌+◌, ◌≤◌, Bool, true, false, ◌&&◌, ◌==◌, if◌then◌else◌, List, [], ◌∷◌, ◌++◌, length, drop, slice_index, Option, Some, None, option_map, option_and_then, Ordering, Less, Equal, Greater, nat_cmp, refl, arith}
use Rattle.std.specs.Cmp.Lexicographic.{slice_cmp}
use Rattle.std.specs.Ordering.{match_ordering}
use Rattle.toml_parser.specs.Lexical.{Read, first, skip_blank, skip_ws}
use Rattle.toml_parser.specs.Numbers.{unquoted}
use Rattle.toml_parser.specs.Strings.{Key, key, quoted, recursion_limit, starts_string}
use Rattle.toml_parser.specs.declared.scalar.Scalar.{Scalar}
use Rattle.toml_parser.specs.declared.scalar.Scalar.TheVariants.{Boolean, Integer, Float, Datetime}
use Rattle.toml.specs.Data.{Data, string, integer, float, boolean, datetime, array, table, Items, no_items, Members, no_members, member, get_member, push_item, same_key}
use Rattle.toml.specs.Parse.{after_byte, after_element, atom, ends_line, expression, header_key, items, key_equals, keyval, line, lines, members, parse_document, read_map, scalar_data, skip_bom, val}
use Rattle.toml.specs.Tables.{Definition, Document, Edit, Expression, Node, Nodes, along_dots, along_header, array_table, at_found, at_key, by_dot, by_header, close, close_node, define, define_as, dot_node, dotted, get_node, header, header_node, implicit, insert, key_value, new_node, no_nodes, node, open_array, open_table, put, redefine, replace, std_table, value}
use Rattle.nys_scenario.proofs.Rests.{Fits, FitsRest, byte_fits, blank_fits, drop_fits, element_fits, fits_if, fits_map, fits_then, given_then, rest_map, rest_then, unquoted_fits, ws_fits}
use Rattle.nys_scenario.proofs.Strings.{Holds, key_fits, left_behind, quoted_holds, string_some}

-- a string has at most so many bytes
abbrev pub FitsData : ℕ → Data → Type 0
FitsData n (string s) = length s ≤ n
FitsData n (integer z) = Unit {0}
FitsData n (float x) = Unit {0}
FitsData n (boolean b) = Unit {0}
FitsData n (datetime dt) = Unit {0}
FitsData n (array ds) = Unit {0}
FitsData n (table ms) = Unit {0}

-- so has the string of a value, and what is left behind it
abbrev FitsVal : ℕ → Read Data → Type 0
FitsVal n None = Unit {0}
FitsVal n (Some p) = (length p.1 ≤ n) × FitsData n p.0

val_if : (n : ℕ) (b : Bool) (x y : Read Data) → FitsVal n x → FitsVal n y → FitsVal n (if b then x else y)
val_if n true x y one other = one
val_if n false x y one other = other

val_left : (n : ℕ) (r : Read Data) → FitsVal n r → Fits n r
val_left n None fits = tt
val_left n (Some p) fits = fits.0

-- a scalar is no string
scalar_fits : (n : ℕ) (s : Scalar) → FitsData n (scalar_data s)
scalar_fits n (Boolean b) = tt
scalar_fits n (Integer z) = tt
scalar_fits n (Float x) = tt
scalar_fits n (Datetime dt) = tt

scalars_fit : (n : ℕ) (r : Read Scalar) → Fits n r → FitsVal n (read_map scalar_data r)
scalars_fit n None fits = tt
scalars_fit n (Some p) fits = (fits, scalar_fits n p.0)

string_fits : (n m : ℕ) (r : Read (List ℕ)) → m ≤ n → Holds m r → FitsVal n (read_map string r)
string_fits n m None le holds = tt
string_fits n m (Some p) le holds = (omega (arith, le, holds), omega (arith, le, holds))

-- a string or a scalar
atom_fits : (n : ℕ) (text : List ℕ) → length text ≤ n → FitsVal n (atom text)
unfolding atom
atom_fits n text le = by_test _ refl
  where
    by_test : (b : Bool) → starts_string text ≡ b → FitsVal n (if b then read_map string (quoted text) else read_map scalar_data (unquoted text))
    by_test true e = string_fits n (length text) (quoted text) le (quoted_holds text (string_some text e))
    by_test false e = scalars_fit n (unquoted text) (unquoted_fits n text le)

-- the members of an array, and what is left behind it
items_fit : (v : List ℕ → Read Data) → ((n : ℕ) (text : List ℕ) → length text ≤ n → FitsVal n (v text))
    → (k : ℕ) (found : Items) (n : ℕ) (text : List ℕ) → length text ≤ n → Fits n (items v k found text)
unfolding items
items_fit v each zero found n text le = tt
items_fit v each (suc k) found n text le =
    let start = skip_blank text in
    let within = blank_fits n text le in
    fits_if n (first start == 93) (Some (found, drop 1 start)) _ (drop_fits 1 n start within)
    (fits_then n (v start) _ (val_left n (v start) (each n start within)) (λ p left.
    rest_then n (after_element 93 p.1) _ (element_fits 93 n p.1 left) (λ rest less.
    items_fit v each k (push_item found p.0) n rest less)))

-- a key and the sign behind it
key_equals_fits : (n : ℕ) (text : List ℕ) → length text ≤ n → Fits n (key_equals text)
unfolding key_equals
key_equals_fits n text le =
    fits_then n (key text) _ (key_fits n text le) (λ k left.
    rest_map n (after_byte 61 k.1) (λ rest. (k.0, skip_ws rest)) (byte_fits 61 n k.1 left) (λ rest less. ws_fits n rest less))

-- a key with a value
abbrev FitsPair : ℕ → Read (Key × Data) → Type 0
FitsPair n None = Unit {0}
FitsPair n (Some p) = (length p.1 ≤ n) × FitsData n p.0.1

pair_left : (n : ℕ) (r : Read (Key × Data)) → FitsPair n r → Fits n r
pair_left n None fits = tt
pair_left n (Some p) fits = fits.0

keyval_fits : (v : List ℕ → Read Data) → ((n : ℕ) (text : List ℕ) → length text ≤ n → FitsVal n (v text))
    → (n : ℕ) (text : List ℕ) → length text ≤ n → FitsPair n (keyval v text)
keyval_fits v each n text le = by_key (key_equals text) (key_equals_fits n text le)
  where
    with_key : (k : Key) (r : Read Data) → FitsVal n r → FitsPair n (read_map (λ d. (k, d)) r)
    with_key k None fits = tt
    with_key k (Some p) fits = fits

    by_key : (r : Read Key) → Fits n r → FitsPair n (option_and_then (λ k. read_map (λ d. (k.0, d)) (v k.1)) r)
    by_key None fits = tt
    by_key (Some k) fits = with_key k.0 (v k.1) (each n k.1 fits)

-- the members of an inline table, and what is left behind it
members_fit : (v : List ℕ → Read Data) → ((n : ℕ) (text : List ℕ) → length text ≤ n → FitsVal n (v text))
    → (k : ℕ) (found : Nodes) (n : ℕ) (text : List ℕ) → length text ≤ n → Fits n (members v k found text)
unfolding members
members_fit v each zero found n text le = tt
members_fit v each (suc k) found n text le =
    let start = skip_blank text in
    let within = blank_fits n text le in
    fits_if n (first start == 125) (Some (close found, drop 1 start)) _ (drop_fits 1 n start within)
    (fits_then n (keyval v start) _ (pair_left n (keyval v start) (keyval_fits v each n start within)) (λ e left.
    given_then n (put e.0.0 e.0.1 found) _ (λ more.
    rest_then n (after_element 125 e.1) _ (element_fits 125 n e.1 left) (λ rest less.
    members_fit v each k more n rest less))))

array_fits : (n : ℕ) (r : Read Items) → Fits n r → FitsVal n (read_map array r)
array_fits n None fits = tt
array_fits n (Some p) fits = (fits, tt)

table_fits : (n : ℕ) (r : Read Members) → Fits n r → FitsVal n (read_map table r)
table_fits n None fits = tt
table_fits n (Some p) fits = (fits, tt)

-- a value
val_fits : (k n : ℕ) (text : List ℕ) → length text ≤ n → FitsVal n (val k text)
unfolding val
val_fits zero n text le = atom_fits n text le
val_fits (suc k) n text le =
    let left = drop_fits 1 n text le in
    val_if n (first text == 91) (read_map array (items (val k) (length text) no_items (drop 1 text))) _
    (array_fits n _ (items_fit (val k) (val_fits k) (length text) no_items n (drop 1 text) left))
    (val_if n (first text == 123) (read_map table (members (val k) (length text) no_nodes (drop 1 text))) (atom text)
    (table_fits n _ (members_fit (val k) (val_fits k) (length text) no_nodes n (drop 1 text) left))
    (atom_fits n text le))

-- the key of a header
header_fits : (n : ℕ) (text : List ℕ) → length text ≤ n → Fits n (header_key text)
unfolding header_key
header_fits n text le =
    fits_then n (key (skip_ws text)) _ (key_fits n (skip_ws text) (ws_fits n text le)) (λ k left.
    rest_map n (after_byte 93 k.1) (λ rest. (k.0, rest)) (byte_fits 93 n k.1 left) (λ rest less. less))

-- what is defined, if it is a string, has at most so many bytes
abbrev FitsWhat : ℕ → Definition → Type 0
FitsWhat n (key_value d) = FitsData n d
FitsWhat n std_table = Unit {0}
FitsWhat n array_table = Unit {0}

abbrev FitsSaid : ℕ → Read Expression → Type 0
FitsSaid n None = Unit {0}
FitsSaid n (Some e) = (length e.1 ≤ n) × FitsWhat n e.0.1

said_if : (n : ℕ) (b : Bool) (x y : Read Expression) → FitsSaid n x → FitsSaid n y → FitsSaid n (if b then x else y)
said_if n true x y one other = one
said_if n false x y one other = other

-- an expression
expression_fits : (n : ℕ) (text : List ℕ) → length text ≤ n → FitsSaid n (expression text)
unfolding expression
expression_fits n text le =
    said_if n (first text == 91 && slice_index text 1 == 91) _ _
    (by_key (header_key (drop 2 text)) (header_fits n (drop 2 text) (drop_fits 2 n text le)))
    (said_if n (first text == 91) (read_map (λ k. (k, std_table)) (header_key (drop 1 text))) _
    (as_table (header_key (drop 1 text)) (header_fits n (drop 1 text) (drop_fits 1 n text le)))
    (as_pair (keyval (val recursion_limit) text) (keyval_fits (val recursion_limit) (val_fits recursion_limit) n text le)))
  where
    by_bracket : (k : Key) (o : Option (List ℕ)) → FitsRest n o → FitsSaid n (option_map (λ rest. ((k, array_table), rest)) o)
    by_bracket k None fits = tt
    by_bracket k (Some rest) fits = (fits, tt)

    by_key : (r : Read Key) → Fits n r → FitsSaid n (option_and_then (λ k. option_map (λ rest. ((k.0, array_table), rest)) (after_byte 93 k.1)) r)
    by_key None fits = tt
    by_key (Some k) fits = by_bracket k.0 (after_byte 93 k.1) (byte_fits 93 n k.1 fits)

    as_table : (r : Read Key) → Fits n r → FitsSaid n (read_map (λ k. (k, std_table)) r)
    as_table None fits = tt
    as_table (Some k) fits = (fits, tt)

    as_pair : (r : Read (Key × Data)) → FitsPair n r → FitsSaid n (read_map (λ p. (p.0, key_value p.1)) r)
    as_pair None fits = tt
    as_pair (Some p) fits = fits

-- an expression on its line
line_fits : (n : ℕ) (text : List ℕ) → length text ≤ n → FitsSaid n (line text)
unfolding line
line_fits n text le = by_end (expression text) (expression_fits n text le)
  where
    by_end : (r : Read Expression) → FitsSaid n r → FitsSaid n (option_and_then (λ e. if ends_line (skip_ws e.1) then Some e else None) r)
    by_end None fits = tt
    by_end (Some e) fits = said_if n (ends_line (skip_ws e.1)) (Some e) None fits tt

-- a string that a key holds has at most so many bytes
abbrev FitsNode : ℕ → Node → Type 0
FitsNode n (value d) = FitsData n d
FitsNode n (open_table origin ns) = Unit {0}
FitsNode n (open_array done ns) = Unit {0}

-- so has each string under a key
abbrev FitsNodes : ℕ → Nodes → Type 0
FitsNodes n no_nodes = Unit {0}
FitsNodes n (node k x ns) = FitsNode n x × FitsNodes n ns

abbrev FitsFound : ℕ → Option Node → Type 0
FitsFound n None = Unit {0}
FitsFound n (Some x) = FitsNode n x

abbrev FitsEdited : ℕ → Option Nodes → Type 0
FitsEdited n None = Unit {0}
FitsEdited n (Some ns) = FitsNodes n ns

-- one of three, by an order
by_order : {A : Type 0} (P : A → Type 0) (o : Ordering) (a b c : A) → P a → P b → P c → P (match_ordering o a b c)
by_order P Less a b c less equal greater = less
by_order P Equal a b c less equal greater = equal
by_order P Greater a b c less equal greater = greater

insert_fits : (n : ℕ) (k : List ℕ) (x : Node) (ns : Nodes) → FitsNode n x → FitsNodes n ns → FitsNodes n (insert k x ns)
insert_fits n k x no_nodes one all = (one, tt)
insert_fits n k x (node l y ns) one all =
    by_order (FitsNodes n) (slice_cmp nat_cmp k l) (node k x (node l y ns)) (node l x ns) (node l y (insert k x ns))
    (one, all) (one, all.1) (all.0, insert_fits n k x ns one all.1)

replace_fits : (n : ℕ) (k : List ℕ) (x : Node) (ns : Nodes) → FitsNode n x → FitsNodes n ns → FitsNodes n (replace k x ns)
replace_fits n k x no_nodes one all = tt
replace_fits n k x (node l y ns) one all = by_key (same_key k l) (replace_fits n k x ns one all.1)
  where
    by_key : (b : Bool) → FitsNodes n (replace k x ns) → FitsNodes n (if b then node l x ns else node l y (replace k x ns))
    by_key true more = (one, all.1)
    by_key false more = (all.0, more)

-- another node at a key
replaced : (n : ℕ) (k : List ℕ) (ns : Nodes) (o : Option Node) → FitsNodes n ns → FitsFound n o → FitsEdited n (option_map (λ new. replace k new ns) o)
replaced n k ns None all one = tt
replaced n k ns (Some x) all one = replace_fits n k x ns one all

-- a node that an edit leaves on the way is no value
header_open : (n : ℕ) (edit : Edit) (x : Node) → FitsFound n (header_node edit x)
header_open n edit (value d) = tt
header_open n edit (open_table origin inner) = by_edit (edit inner)
  where
    by_edit : (o : Option Nodes) → FitsFound n (option_map (open_table origin) o)
    by_edit None = tt
    by_edit (Some ns) = tt
header_open n edit (open_array done last) = by_edit (edit last)
  where
    by_edit : (o : Option Nodes) → FitsFound n (option_map (open_array done) o)
    by_edit None = tt
    by_edit (Some ns) = tt

dotted_open : (n : ℕ) (o : Option Nodes) → FitsFound n (option_map (open_table dotted) o)
dotted_open n None = tt
dotted_open n (Some ns) = tt

dot_open : (n : ℕ) (edit : Edit) (x : Node) → FitsFound n (dot_node edit x)
dot_open n edit (value d) = tt
dot_open n edit (open_table header inner) = tt
dot_open n edit (open_table implicit inner) = dotted_open n (edit inner)
dot_open n edit (open_table dotted inner) = dotted_open n (edit inner)
dot_open n edit (open_array done last) = tt

-- an edit keeps what fits
abbrev Keeps : ℕ → Edit → Type 0
Keeps n edit = (ns : Nodes) → FitsNodes n ns → FitsEdited n (edit ns)

-- an edit at the end of a path
header_keeps : (n : ℕ) (path : List (List ℕ)) (edit : Edit) → Keeps n edit → Keeps n (along_header path edit)
unfolding along_header
header_keeps n [] edit keeps ns all = keeps ns all
header_keeps n (k ∷ path) edit keeps ns all = by_node (get_node k ns)
  where
    inserted : (o : Option Nodes) → FitsEdited n (option_map (λ new. insert k (open_table implicit new) ns) o)
    inserted None = tt
    inserted (Some new) = insert_fits n k (open_table implicit new) ns tt all

    by_node : (o : Option Node) → FitsEdited n (by_header k (along_header path edit) ns o)
    by_node None = inserted (along_header path edit no_nodes)
    by_node (Some x) = replaced n k ns (header_node (along_header path edit) x) all (header_open n (along_header path edit) x)

dots_keep : (n : ℕ) (path : List (List ℕ)) (edit : Edit) → Keeps n edit → Keeps n (along_dots path edit)
unfolding along_dots
dots_keep n [] edit keeps ns all = keeps ns all
dots_keep n (k ∷ path) edit keeps ns all = by_node (get_node k ns)
  where
    inserted : (o : Option Nodes) → FitsEdited n (option_map (λ new. insert k (open_table dotted new) ns) o)
    inserted None = tt
    inserted (Some new) = insert_fits n k (open_table dotted new) ns tt all

    by_node : (o : Option Node) → FitsEdited n (by_dot k (along_dots path edit) ns o)
    by_node None = inserted (along_dots path edit no_nodes)
    by_node (Some x) = replaced n k ns (dot_node (along_dots path edit) x) all (dot_open n (along_dots path edit) x)

-- what is defined at a key
new_fits : (n : ℕ) (what : Definition) → FitsWhat n what → FitsNode n (new_node what)
new_fits n (key_value d) fits = fits
new_fits n std_table fits = tt
new_fits n array_table fits = tt

redefined : (n : ℕ) (what : Definition) (x : Node) → FitsFound n (redefine what x)
redefined n (key_value d) x = tt
redefined n std_table (value d) = tt
redefined n std_table (open_table implicit inner) = tt
redefined n std_table (open_table dotted inner) = tt
redefined n std_table (open_table header inner) = tt
redefined n std_table (open_array done last) = tt
redefined n array_table (value d) = tt
redefined n array_table (open_table origin inner) = tt
redefined n array_table (open_array done last) = tt

key_keeps : (n : ℕ) (k : List ℕ) (what : Definition) → FitsWhat n what → Keeps n (at_key k what)
unfolding at_key
key_keeps n k what fits ns all = by_node (get_node k ns)
  where
    by_node : (o : Option Node) → FitsEdited n (at_found k what ns o)
    by_node None = insert_fits n k (new_node what) ns (new_fits n what fits) all
    by_node (Some x) = replaced n k ns (redefine what x) all (redefined n what x)

-- the keys of a document so far
abbrev FitsDocument : ℕ → Option Document → Type 0
FitsDocument n None = Unit {0}
FitsDocument n (Some doc) = FitsNodes n doc.0

with_root : (n : ℕ) (last : List (List ℕ)) (o : Option Nodes) → FitsEdited n o → FitsDocument n (option_map (λ root. (root, last)) o)
with_root n last None fits = tt
with_root n last (Some root) fits = fits

define_fits : (n : ℕ) (doc : Document) (e : Expression) → FitsNodes n doc.0 → FitsWhat n e.1 → FitsDocument n (define doc e)
unfolding define
define_fits n doc e all fits = by_what e.1 fits
  where
    by_what : (what : Definition) → FitsWhat n what → FitsDocument n (define_as doc e.0 what)
    by_what (key_value d) one = with_root n doc.1 _
        (header_keeps n doc.1 (put e.0 d) (dots_keep n e.0.0 (at_key e.0.1 (key_value d)) (key_keeps n e.0.1 (key_value d) one)) doc.0 all)
    by_what std_table one = with_root n _ _ (header_keeps n e.0.0 (at_key e.0.1 std_table) (key_keeps n e.0.1 std_table tt) doc.0 all)
    by_what array_table one = with_root n _ _ (header_keeps n e.0.0 (at_key e.0.1 array_table) (key_keeps n e.0.1 array_table tt) doc.0 all)

document_if : (n : ℕ) (b : Bool) (x y : Option Document) → FitsDocument n x → FitsDocument n y → FitsDocument n (if b then x else y)
document_if n true x y one other = one
document_if n false x y one other = other

-- all lines of a document
all_lines : (k : ℕ) (doc : Document) (n : ℕ) (text : List ℕ) → FitsNodes n doc.0 → length text ≤ n → FitsDocument n (lines k doc text)
unfolding lines
all_lines zero doc n text all le = tt
all_lines (suc k) doc n text all le =
    let start = skip_blank text in
    let more : (next : Document) (rest : List ℕ) → FitsNodes n next.0 → length rest ≤ n → FitsDocument n (lines k next rest)
    = λ next rest fits less. all_lines k next n rest fits less in
    document_if n (length start == 0) (Some doc) _ all (by_line more (line start) (line_fits n start (blank_fits n text le)))
  where
    AllMore : Type 0
    AllMore = (next : Document) (rest : List ℕ) → FitsNodes n next.0 → length rest ≤ n → FitsDocument n (lines k next rest)

    by_next : AllMore → (rest : List ℕ) → length rest ≤ n → (o : Option Document) → FitsDocument n o
        → FitsDocument n (option_and_then (λ next. lines k next rest) o)
    by_next more rest less None fits = tt
    by_next more rest less (Some next) fits = more next rest fits less

    by_line : AllMore → (r : Read Expression) → FitsSaid n r
        → FitsDocument n (option_and_then (λ e. option_and_then (λ next. lines k next e.1) (define doc e.0)) r)
    by_line more None fits = tt
    by_line more (Some e) fits = by_next more e.1 fits.0 (define doc e.0) (define_fits n doc e.0 all fits.1)

-- each string under a key of a table has at most so many bytes
abbrev pub FitsMembers : ℕ → Members → Type 0
FitsMembers n no_members = Unit {0}
FitsMembers n (member k d ms) = FitsData n d × FitsMembers n ms

closed_node : (n : ℕ) (x : Node) → FitsNode n x → FitsData n (close_node x)
closed_node n (value d) fits = fits
closed_node n (open_table origin ns) fits = tt
closed_node n (open_array done ns) fits = tt

closed : (n : ℕ) (ns : Nodes) → FitsNodes n ns → FitsMembers n (close ns)
closed n no_nodes all = tt
closed n (node k x ns) all = (closed_node n x all.0, closed n ns all.1)

abbrev pub FitsTable : ℕ → Option Members → Type 0
FitsTable n None = Unit {0}
FitsTable n (Some ms) = FitsMembers n ms

-- a text without its mark of byte order
bom_fits : (text : List ℕ) → length (skip_bom text) ≤ length text
unfolding skip_bom
bom_fits text = by_test ((first text == 0xEF && slice_index text 1 == 0xBB) && slice_index text 2 == 0xBF)
  where
    by_test : (b : Bool) → length (if b then drop 3 text else text) ≤ length text
    by_test true = drop_fits 3 (length text) text (omega arith)
    by_test false = omega arith

-- so has each of the table that a text is
pub document_fits : (text : List ℕ) → FitsTable (length text) (parse_document text)
unfolding parse_document
document_fits text = by_lines (lines (suc (length text)) (no_nodes, []) (skip_bom text)) (all_lines (suc (length text)) (no_nodes, []) (length text) (skip_bom text) tt (bom_fits text))
  where
    by_lines : (o : Option Document) → FitsDocument (length text) o → FitsTable (length text) (option_map (λ doc. close doc.0) o)
    by_lines None fits = tt
    by_lines (Some doc) fits = closed (length text) doc.0 fits

-- the value that stands under a key
abbrev pub FitsValue : ℕ → Option Data → Type 0
FitsValue n None = Unit {0}
FitsValue n (Some d) = FitsData n d

pub member_fits : (n : ℕ) (k : List ℕ) (ms : Members) → FitsMembers n ms → FitsValue n (get_member k ms)
member_fits n k no_members all = tt
member_fits n k (member l d ms) all =
    let more = member_fits n k ms all.1 in
    by_order (FitsValue n) (slice_cmp nat_cmp k l) (get_member k ms) (Some d) (get_member k ms) more all.0 more
