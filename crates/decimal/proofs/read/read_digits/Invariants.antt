-- All bytes before this one are digits, and they write the size so far.
use Rattle.std.proofs.Common.{◌≡◌, ◌^◌, ◌%◌, ◌≤◌, true, length, take}
use Rattle.std.specs.Char.{is_digit}
use Rattle.std.specs.List.{list_all}
use Rattle.std.specs.Str.Parse.{digits_value}
use Rattle.decimal.proofs.read.read_digits.Given as goal

abbrev pub invariant-loop-at : goal.invariant-loop-at
invariant-loop-at l = record {
  within : l.at ≤ length l.text;
  digits : list_all (λ b. is_digit b 10) (take l.at l.text) ≡ true;
  size : l.size ≡ digits_value 10 (take l.at l.text) % 2 ^ 64;
}
