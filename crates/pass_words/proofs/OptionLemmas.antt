-- A value that was read, without where it lies in memory, and the place of an option that is found.
use Rattle.std.proofs.Common.{◌≡◌, ℕ, List, Bool, Bor, true, drop, refl, option_map}
use Rattle.std.specs.Prelude.{Option, Some, None, Result, Ok}
use Rattle.pass_words.specs.declared.options.PassFault.{PassFault}
use Rattle.pass_words.specs.declared.options.PassFile.{PassFile}
use Rattle.pass_words.specs.declared.options.PassOption.{PassOption}
use Rattle.pass_words.specs.Options.{Place, Word, file_from, is_of_command, pass_count, pass_file_of, place_of, shown_place, value_of}

pub is_value : (r : Option (Bor Word × Bool)) (v : Bor Word × Bool) (s : Option (Word × Bool)) → option_map (λ v. (v.0.now, v.1)) r ≡ s → r ≡ Some v → s ≡ Some (v.0.now, v.1)
is_value r v s e is = rw (← e, is) refl

pub is_no_value : (r : Option (Bor Word × Bool)) (s : Option (Word × Bool)) → option_map (λ v. (v.0.now, v.1)) r ≡ s → r ≡ None → s ≡ None
is_no_value r s e is = rw (← e, is) refl

pub pass_file_is : (option : PassOption) (words : List Word) (at : ℕ) → is_of_command option words ≡ true → file_from option 0 words ≡ Some at → pass_count option words ≡ 1
    → pass_file_of option words ≡ place_of option at (value_of (drop at words))
pass_file_is option words at of found one = rw (of, found, one) refl

pub place_is : (r : Result (Option PassFile) PassFault) (o : Option PassFile) (file : PassFile) (s : Result (Option Place) PassFault) → shown_place r ≡ s → r ≡ Ok o → o ≡ Some file
    → shown_place (Ok (Some file)) ≡ s
place_is r o file s e is some = rw (← e, is, some) refl
