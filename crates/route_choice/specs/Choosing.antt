-- The choice of interrogator: document 01, "Interrogators and ground addresses", second paragraph.
-- A set of codes is a word of 16 bits: bit i is 1 if code i is in the set.
-- Assumes nothing.
use Rattle.std.specs.Prelude.{Bool, true, not, cond, ℕ, ltb, eqb, Result, Ok, Err, Option, Some, None}
use Rattle.refusal.specs.declared.Refusal.TheVariants.{OutOfRange, NoInterrogator, AllFailed}
use Rattle.refusal.specs.Numbers.{number_of, check, Verdict}
use Rattle.wordset.specs.Sets.{member, difference, lowest}
use Rattle.route_choice.specs.declared.Clearing.{Clearing}
use Rattle.refusal.specs.declared.Refusal.{Refusal}

-- the code that a choice names: 0 if it is refused
abbrev pub choice_code : Result ℕ Refusal → ℕ
choice_code (Ok code) = code
choice_code (Err why) = 0

-- the set of the codes present that have not failed
abbrev pub usable : ℕ → ℕ → ℕ
usable codes failed = difference 16 codes failed

-- the last-used code, if there is one, is one of the 16 codes
abbrev pub last_in_range : Option ℕ → Bool
last_in_range (Some c) = ltb c 16
last_in_range None = true

-- the checks in their order: 1 for a last-used code over 15 (in the table of refusal numbers: "CH,
-- AM or II over 15"), then "8 if the set is empty, 15 if all present have failed"
unfoldable pub choose_verdict : ℕ → Option ℕ → ℕ → Verdict
choose_verdict codes last failed =
    check (last_in_range last) OutOfRange
    (check (not (eqb codes 0)) NoInterrogator
    (check (not (eqb (usable codes failed) 0)) AllFailed
    (Ok tt)))

-- "the last-used if present for that address and not failed; else the lowest code present and not
-- failed"; `usables` is the set of the codes present and not failed
abbrev pub chosen_code : ℕ → Option ℕ → ℕ
chosen_code usables (Some c) = cond (member usables c) c (lowest 16 usables)
chosen_code usables None = lowest 16 usables

-- the code if every check passes, else the refusal
abbrev pub choose_by : Verdict → ℕ → Result ℕ Refusal
choose_by (Ok tt) code = Ok code
choose_by (Err why) code = Err why

-- the choice, from the codes of the address, the last-used code and the failed codes
unfoldable pub choose_of : ℕ → Option ℕ → ℕ → Result ℕ Refusal
choose_of codes last failed = choose_by (choose_verdict codes last failed) (chosen_code (usable codes failed) last)

-- the values of the clearing codes: the clearing cause CC and the diagnostic code DC, 0 if there
-- are none
abbrev pub clearing_cause : Option Clearing → ℕ
clearing_cause (Some codes) = codes.cause
clearing_cause None = 0

abbrev pub clearing_diagnostic : Option Clearing → ℕ
clearing_diagnostic (Some codes) = codes.diagnostic
clearing_diagnostic None = 0

-- "For 8 on a call the clearing codes are CC 141, DC 162"; there are none for a code that is chosen
-- or for any other refusal
abbrev pub clearing_of : Result ℕ Refusal → Option Clearing
clearing_of (Ok code) = None
clearing_of (Err why) = cond (eqb (number_of why) 8) (Some (record { cause = 141; diagnostic = 162 })) None
