-- The whole case of document 01, by computation.
-- Assumes nothing.
use mathlib.Core.Path.{◌≡◌, refl}
use mathlib.Core.List.{List, [], ◌∷◌}
use Prim.Native.Nat.{ℕ}
use Rattle.sequence.specs.Modular.{distance}
use Rattle.wordset.specs.Sets.{bit, member, set_of, first, how_many, every}
use Rattle.resequencer.specs.State.{held_in_window, clocks_on_held, clocks_apart, hsnr_furthest, meets_clock, tickets_of_held, in_order}
use Rattle.lists.specs.Lists.{list_from}
use Rattle.resequencer.specs.Events.{plain, places, hand_on, remaining, advance, held_tickets, starts_clock, hold, run_after_nesn, hand_on_run, take_arrival, arrive_verdict, arrive_of, passed_by_clock, take_clock_end, clock_end_verdict, clock_end_of, handed}
use Rattle.text.specs.Decimal.{decimal, digit_at, spaced}
use Rattle.replay_script.specs.Text.{decimal_in, is_number, all_digits, is_digit, value_from, all_spaced}
use Rattle.replay_script.specs.Lines.{script_report, report_header, lines_text, lines_in, on_first, line_text, line_next, answer_text, line_answer, line_in, arrival_of, clock_end_line, word, after_word, tickets_text, result_text}

-- `A 2 7`, `A 0 5`, `A 1 6`, `A 2 7`, `E 4`
abbrev pub whole_script : List ℕ
whole_script =
    65 ∷ 32 ∷ 50 ∷ 32 ∷ 55 ∷ 10
    ∷ 65 ∷ 32 ∷ 48 ∷ 32 ∷ 53 ∷ 10
    ∷ 65 ∷ 32 ∷ 49 ∷ 32 ∷ 54 ∷ 10
    ∷ 65 ∷ 32 ∷ 50 ∷ 32 ∷ 55 ∷ 10
    ∷ 69 ∷ 32 ∷ 52 ∷ 10
    ∷ []

-- the header, `0 1 1 -`, `1 1 1 5`, `3 0 0 6 7`, `3 0 0 old`, `3 0 0 refused 7`
abbrev pub whole_report : List ℕ
whole_report =
    110 ∷ 101 ∷ 115 ∷ 110 ∷ 32 ∷ 104 ∷ 101 ∷ 108 ∷ 100 ∷ 32 ∷ 99 ∷ 108 ∷ 111 ∷ 99 ∷ 107 ∷ 115 ∷ 32 ∷ 114 ∷ 101 ∷ 115 ∷ 117 ∷ 108 ∷ 116 ∷ 10
    ∷ 48 ∷ 32 ∷ 49 ∷ 32 ∷ 49 ∷ 32 ∷ 45 ∷ 10
    ∷ 49 ∷ 32 ∷ 49 ∷ 32 ∷ 49 ∷ 32 ∷ 53 ∷ 10
    ∷ 51 ∷ 32 ∷ 48 ∷ 32 ∷ 48 ∷ 32 ∷ 54 ∷ 32 ∷ 55 ∷ 10
    ∷ 51 ∷ 32 ∷ 48 ∷ 32 ∷ 48 ∷ 32 ∷ 111 ∷ 108 ∷ 100 ∷ 10
    ∷ 51 ∷ 32 ∷ 48 ∷ 32 ∷ 48 ∷ 32 ∷ 114 ∷ 101 ∷ 102 ∷ 117 ∷ 115 ∷ 101 ∷ 100 ∷ 32 ∷ 55 ∷ 10
    ∷ []

pub whole-case : script_report whole_script ≡ whole_report
unfolding script_report report_header lines_text lines_in on_first line_text line_next answer_text decimal digit_at line_answer line_in arrival_of clock_end_line decimal_in is_number word after_word all_digits is_digit value_from spaced all_spaced tickets_text result_text handed bit member set_of first how_many every held_in_window clocks_on_held clocks_apart hsnr_furthest meets_clock tickets_of_held in_order distance plain places hand_on remaining list_from advance held_tickets starts_clock hold run_after_nesn hand_on_run take_arrival arrive_verdict arrive_of passed_by_clock take_clock_end clock_end_verdict clock_end_of
whole-case = refl
