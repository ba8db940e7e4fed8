-- A link that has a name, and what is refused for it.
use Rattle.std.proofs.Common.{◌≡◌, ◌∙◌, Bool, true, false, List, [], ◌∷◌, ◌++◌, drop, refl, take}
use Rattle.std.specs.Prelude.{Option, Some, Result, Ok, Err, IfErr, OnOk, not, ◌&&◌}
use Rattle.link_words.specs.declared.no_link.NoLink.{NoLink}
use Rattle.link_words.specs.declared.positions.Scan.{Scan}
use Rattle.link_words.specs.Texts.{Word}
use Rattle.link_words.specs.Hosts.{is_name}
use Rattle.link_words.specs.Urls.{Written, form_of, parts_of}
use Rattle.link_words.specs.Parameters.{Fault, IsRefused, is_receiving, kept_in, options_of, parameters_in}
use Rattle.link_words.specs.Positions.{after, is_link}
use Rattle.link_words.specs.Addresses.{Table, command_of, endpoint_by, link_at, link_of, links_from, options_at, options_from, resolved_by, with_address}

pub if_err : {T E : Type 0} {P Q : E → Type 0} (r : Result T E) → IfErr r P → ((e : E) → P e → Q e) → IfErr r Q
if_err (Ok x) h f = h
if_err (Err e) h f = f e h

pub same_refused : {A : Type 0} {a b : Result A Fault} → a ≡ b → (e : NoLink) → IsRefused b e → IsRefused a e
same_refused same e h = λ fault is. same ∙ h fault is

-- a link that is written, and behind it what stays with it
pub written_is : (t : Table) (word host port link : Word) (listens : Bool) (parameters : Option Word) → form_of word ≡ Written host port listens parameters
    → endpoint_by t host port ≡ Ok link → link_of t word ≡ Ok (link ++ kept_in 16 [] parameters)
written_is t word host port link listens parameters form is = rw (form, is) refl

pub unwritten_is : (t : Table) (word host port : Word) (listens : Bool) (parameters : Option Word) (fault : Fault) → form_of word ≡ Written host port listens parameters
    → endpoint_by t host port ≡ Err fault → link_of t word ≡ Err fault
unwritten_is t word host port listens parameters fault form is = rw (form, is) refl

pub named_is : (t : Table) (host port : Word) → is_name host ≡ true → endpoint_by t host port ≡ with_address host port (t host)
named_is t host port name = rw name refl

pub link_is : (t : Table) (scan : Scan) (word : Word) → is_link scan word ≡ true → link_at t scan word ≡ link_of t word
link_is t scan word is = rw is refl

pub on_ok : {T E : Type 0} {P Q : Type 0} (r : Result T E) → OnOk r P → (P → Q) → OnOk r Q
on_ok (Ok x) h f = f h
on_ok (Err e) h f = h

-- a link whose parameters are taken
pub taken_is : (command : Word) (options : List Word) (word host port : Word) (listens : Bool) (parameters : Option Word) → form_of word ≡ Written host port listens parameters
    → (listens && not (is_receiving command)) ≡ false → options_of command options word ≡ parameters_in 16 command (parts_of word).0 options parameters
taken_is command options word host port listens parameters form taken = rw (form, taken) refl

-- one word more of a line
pub next_options : (command : Word) (scan : Scan) (options new : List Word) (word : Word) (rest : List Word) → options_at command scan options word ≡ Ok new
    → options_from command scan options (word ∷ rest) ≡ options_from command (after scan word) new rest
next_options command scan options new word rest is = rw is refl

pub bad_options : (command : Word) (scan : Scan) (options : List Word) (word : Word) (rest : List Word) (fault : Fault) → options_at command scan options word ≡ Err fault
    → options_from command scan options (word ∷ rest) ≡ Err fault
bad_options command scan options word rest fault is = rw is refl

-- a link that is refused ends the line
pub bad_links : (t : Table) (scan : Scan) (line : List Word) (word : Word) (rest : List Word) (fault : Fault) → link_at t scan word ≡ Err fault
    → links_from t scan line (word ∷ rest) ≡ Err fault
bad_links t scan line word rest fault is = rw is refl

-- where the options are known, the links tell
pub links_tell : (t : Table) (scan : Scan) (words options : List Word) → options_from (command_of words) scan [] (drop 2 words) ≡ Ok options
    → resolved_by t words (Some scan) ≡ links_from t scan (take 2 words ++ options) (drop 2 words)
links_tell t scan words options is = rw is refl
