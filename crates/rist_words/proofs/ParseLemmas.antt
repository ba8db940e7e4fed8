-- How the command line parser's own words come to ours: a command of rules, a parse, and the values of one.
use Rattle.std.proofs.Common.{rules, ◌≡◌, ◌∙◌, ◌<◌, ◌^◌, ℕ, Bool, true, false, List, [], ◌∷◌, Option, Ok, Err, IfSome, IfNone, ◌≤◌, arith, Result, length, ap, sym, refl, inl, inr}
use Rattle.std.specs.Prelude.{map, find, option_map, option_and_then, slice_get}
use Rattle.std.specs.Str.{bytes_eq}
use Rattle.std.specs.Str.Parse.{ParsesUnsigned, digits_value}
use Rattle.std.specs.Result.{OkIff, result_ok}
use Rattle.std.proofs.lemmas.Bool.{cases_lt}
use Rattle.std.specs.Char.{is_ascii_digit}
use Rattle.std.specs.List.{list_all}
use Rattle.std.specs.Borrow.{Bor}
use Rattle.std.proofs.lemmas.Str.Parse.{IsNumeralModel, numerals_by_value, parse_digits}
use Rattle.clap.specs.Facts.{Entry}
use Rattle.clap.specs.Walk.{row_of}
use Rattle.clap.specs.declared.parser.matches.Found.{Found}
use Rattle.clap.specs.declared.ArgMatches.{ArgMatches}
use Rattle.clap.specs.Words.{App, Kinds, HasKind, HasMatchesOf, Text, all_of, fault_of, first_of, first_value, matched_of, raw_values, is_simple, is_simple_and_free, kind_of, rows_of, subcommand_of, subcommand_rows_of}
use Rattle.clap.specs.declared.error.Error.{Error}
use Rattle.clap.specs.declared.error.ErrorKind.TheVariants.{OutOfMemory}
use Rattle.clap.proofs.OnLiterals.{clap_on_literals}
use Rattle.rist_words.specs.Values.{is_numeral}
use Rattle.rist_words.specs.Commands.{command_in, faults_of, rist_app}

rist_is_simple : is_simple rist_app ≡ true
unfolding clap_on_literals
rist_is_simple = refl

rist_is_free : is_simple_and_free rist_app ≡ true
unfolding clap_on_literals
rist_is_free = refl

-- an error that isn't for want of memory has a fault
has_fault : (ks : Kinds) (e : Error) → HasKind ks e → (kind_of e ≡ OutOfMemory → ⊥) → ks ≡ [] → ⊥
has_fault [] e (inl m) not_memory is = not_memory m
has_fault [] e (inr a) not_memory is = a
has_fault (k ∷ ks) e h not_memory is = cc

pub refused_words : (app : App) (words : List Text) (e : Error) → app ≡ rist_app → (is_simple_and_free app ≡ true → HasKind (fault_of app words) e)
    → (kind_of e ≡ OutOfMemory → ⊥) → faults_of words ≡ [] → ⊥
unfolding faults_of
refused_words app words e is kinds not_memory taken =
    has_fault _ e (kinds (ap is_simple_and_free is ∙ rist_is_free)) not_memory (ap (λ a. fault_of a words) is ∙ taken)

pub taken_words : (app : App) (words : List Text) → app ≡ rist_app → (is_simple_and_free app ≡ true → fault_of app words ≡ []) → faults_of words ≡ []
unfolding faults_of
taken_words app words is taken = sym (ap (λ a. fault_of a words) is) ∙ taken (ap is_simple_and_free is ∙ rist_is_free)

pub named_command : (app : App) (words : List Text) (m : ArgMatches) → app ≡ rist_app → HasMatchesOf app words m → subcommand_rows_of m ≡ command_in words
unfolding command_in
named_command app words m is has = (has (ap is_simple is ∙ rist_is_simple)).1 ∙ ap (λ a. subcommand_of a words) is

slice_get_mapped : (xs : List (Bor (List ℕ))) → option_map (λ s. s.now) (slice_get xs 0) ≡ slice_get (map (λ s. s.now) xs) 0
slice_get_mapped [] = refl
slice_get_mapped (x ∷ xs) = refl

-- the first value of the first entry with an id, among these entries; and among their rows
abbrev value_among : List ℕ → List Entry → Option (List ℕ)
value_among id es = option_and_then (λ a. option_map (λ s. s.now) (slice_get a.vals.items 0)) (option_map (λ e. e.1) (find (λ e. bytes_eq e.0.now id) es))

value_step : (id : List ℕ) (e : Entry) (es : List Entry) (t : Bool) → bytes_eq e.0.now id ≡ t → value_among id es ≡ first_of id (map row_of es)
    → value_among id (e ∷ es) ≡ first_of id (map row_of (e ∷ es))
value_step id e es true is rest = rw is (slice_get_mapped e.1.vals.items)
value_step id e es false is rest = rw is rest

value_among_rows : (id : List ℕ) (es : List Entry) → value_among id es ≡ first_of id (map row_of es)
value_among_rows id [] = refl
value_among_rows id (e ∷ es) = value_step id e es (bytes_eq e.0.now id) refl (value_among_rows id es)

-- a value of a parse is that of its rows
pub first_of_found : (f : Found) (id : List ℕ) → first_value f id ≡ first_of id (rows_of f)
first_of_found f id = value_among_rows id f.entries.items

-- all values of the first entry with an id, among these entries; and among their rows
abbrev values_among : List ℕ → List Entry → Option (List (List ℕ))
values_among id es = option_map raw_values (option_map (λ e. e.1) (find (λ e. bytes_eq e.0.now id) es))

values_step : (id : List ℕ) (e : Entry) (es : List Entry) (t : Bool) → bytes_eq e.0.now id ≡ t → values_among id es ≡ all_of id (map row_of es)
    → values_among id (e ∷ es) ≡ all_of id (map row_of (e ∷ es))
values_step id e es true is rest = rw is refl
values_step id e es false is rest = rw is rest

values_among_rows : (id : List ℕ) (es : List Entry) → values_among id es ≡ all_of id (map row_of es)
values_among_rows id [] = refl
values_among_rows id (e ∷ es) = values_step id e es (bytes_eq e.0.now id) refl (values_among_rows id es)

-- all values of a parse are those of its rows
pub all_of_found : (f : Found) (id : List ℕ) → option_map raw_values (matched_of f id) ≡ all_of id (rows_of f)
all_of_found f id = values_among_rows id f.entries.items

-- digits parse to their number where it fits
own : IsNumeralModel (λ ds. list_all is_ascii_digit ds ≡ true) (digits_value 10)
own = numerals_by_value _ (search rules)

parsed : {E : Type 0} (text : List ℕ) (r : Result ℕ E) → ParsesUnsigned 64 10 text r → is_numeral text ≡ true
    → OkIff r ((0 < length text) × (digits_value 10 text < 2 ^ 64)) (digits_value 10 text)
parsed text r h numeral = parse_digits own 64 text r h (grind (arith, numeral))

some_read : {E : Type 0} (r : Result ℕ E) (P : Type 0) (v : ℕ) → OkIff r P v → IfSome (result_ok r) (λ n. n ≡ v)
some_read (Ok x) P v h = h.1
some_read (Err e) P v h = tt

none_read : {E : Type 0} (r : Result ℕ E) (length v : ℕ) → OkIff r ((0 < length) × (v < 2 ^ 64)) v → 0 < length → IfNone (result_ok r) (2 ^ 64 ≤ v)
none_read (Ok x) length v h some = tt
none_read (Err e) length v h some = elim (cases_lt v (2 ^ 64)) [ inl lt ↦ absurd (h (some, lt)) | inr le ↦ le ]

-- what a parse of a numeral gives, as an option
pub some_value : {E : Type 0} (text : List ℕ) (r : Result ℕ E) → ParsesUnsigned 64 10 text r → is_numeral text ≡ true
    → IfSome (result_ok r) (λ n. n ≡ digits_value 10 text)
some_value text r h numeral = some_read r _ _ (parsed text r h numeral)

pub none_value : {E : Type 0} (text : List ℕ) (r : Result ℕ E) → ParsesUnsigned 64 10 text r → is_numeral text ≡ true
    → IfNone (result_ok r) (2 ^ 64 ≤ digits_value 10 text)
none_value text r h numeral = none_read r (length text) _ (parsed text r h numeral) (grind (arith, numeral))
