-- A script, line by line, and its report: document 01, "The replay program". Lines and reports are
-- lists of bytes.
-- Assumes nothing.
use Rattle.std.specs.Prelude.{cond, List, [], ◌∷◌, ◌++◌, ℕ, eqb, get_or, drop, Result, Ok, Err, Option, Some, None}
use Rattle.refusal.specs.declared.Refusal.TheVariants.{Malformed}
use Rattle.refusal.specs.Numbers.{number_of}
use Rattle.wordset.specs.Sets.{count}
use Rattle.resequencer.specs.declared.Resequencer.{Resequencer}
use Rattle.resequencer.specs.declared.Answer.{Answer}
use Rattle.resequencer.specs.State.{fresh_state}
use Rattle.resequencer.specs.Events.{plain, handed, arrive_of, clock_end_of}
use Rattle.replay_script.specs.declared.Line.{Line}
use Rattle.replay_script.specs.declared.Line.TheVariants.{Arrival, ClockEnd}
use Rattle.text.specs.Decimal.{decimal, spaced}
use Rattle.replay_script.specs.Text.{decimal_in, all_spaced}
use Rattle.resequencer.specs.declared.Outcome.{Outcome}
use Rattle.resequencer.specs.declared.Outcome.TheVariants.{Held, HandedOn, Old, Duplicate}
use Rattle.refusal.specs.declared.Refusal.{Refusal}

-- ---- reading a line: `A sn ticket` and `E sn`

-- the bytes before the first blank, all of them if there is none
unfoldable pub word : List ℕ → List ℕ
word [] = []
word (b ∷ bs) = cond (eqb b 32) [] (b ∷ word bs)

-- the bytes after the first blank, none if there is none
unfoldable pub after_word : List ℕ → List ℕ
after_word [] = []
after_word (b ∷ bs) = cond (eqb b 32) bs (after_word bs)

-- the line of an arrival; none if one of the two texts is no number
unfoldable pub arrival_of : Option ℕ → Option ℕ → Option Line
arrival_of (Some sn) (Some ticket) = Some (Arrival sn ticket)
arrival_of (Some sn) None = None
arrival_of None ticket = None

-- the line of a clock end, in the same way
unfoldable pub clock_end_line : Option ℕ → Option Line
clock_end_line (Some sn) = Some (ClockEnd sn)
clock_end_line None = None

-- a line without its line end, read: the letter A (65) or E (69), a blank (32), and then the
-- numbers. Anything else is malformed, an empty line too, and gives none
unfoldable pub line_in : List ℕ → Option Line
line_in text =
    cond (eqb (get_or text 1 0) 32)
    (cond (eqb (get_or text 0 0) 65) (arrival_of (decimal_in (word (drop 2 text))) (decimal_in (after_word (drop 2 text))))
    (cond (eqb (get_or text 0 0) 69) (clock_end_line (decimal_in (drop 2 text)))
    None))
    None

-- ---- running a line

-- the resequencer's answer to a line in the state s. "A malformed line has the result `refused 2`
-- and changes nothing."
unfoldable pub line_answer : Resequencer → Option Line → Answer
line_answer s (Some (Arrival sn ticket)) = arrive_of s sn ticket
line_answer s (Some (ClockEnd sn)) = clock_end_of s sn
line_answer s None = plain (Err Malformed) s

-- ---- reporting a line: "NESN, number held, clocks, result (`-` held or nothing, tickets, `old`,
-- `dup`, `refused n`)"

-- the tickets handed on, each with a blank in front, or ` -` if there are none
unfoldable pub tickets_text : List ℕ → List ℕ
tickets_text [] = 32 ∷ 45 ∷ []
tickets_text (t ∷ ts) = all_spaced (t ∷ ts)

-- the result with its blank in front: ` -`, the tickets, ` old`, ` dup` or ` refused n`
unfoldable pub result_text : Result Outcome Refusal → List ℕ → List ℕ
result_text (Ok Held) tickets = 32 ∷ 45 ∷ []
result_text (Ok HandedOn) tickets = tickets_text tickets
result_text (Ok Old) tickets = 32 ∷ 111 ∷ 108 ∷ 100 ∷ []
result_text (Ok Duplicate) tickets = 32 ∷ 100 ∷ 117 ∷ 112 ∷ []
result_text (Err why) tickets = 32 ∷ 114 ∷ 101 ∷ 102 ∷ 117 ∷ 115 ∷ 101 ∷ 100 ∷ spaced (number_of why)

-- the report of an answer: NESN, the number held and the number of clocks in the next state, the
-- result, and a line end (10)
unfoldable pub answer_text : Answer → List ℕ
answer_text a =
    decimal a.next.nesn.0
    ++ (spaced (count 64 a.next.held) ++ (spaced (count 64 a.next.clocks) ++ (result_text a.outcome (handed a) ++ (10 ∷ []))))

-- the report of one line of the script in the state s; the line is given without its line end
unfoldable pub line_text : Resequencer → List ℕ → List ℕ
line_text s text = answer_text (line_answer s (line_in text))

-- the state after the line
unfoldable pub line_next : Resequencer → List ℕ → Resequencer
line_next s text = (line_answer s (line_in text)).next

-- ---- the whole script

-- the lines with a byte put in front of the first one
unfoldable pub on_first : ℕ → List (List ℕ) → List (List ℕ)
on_first b [] = (b ∷ []) ∷ []
on_first b (l ∷ ls) = (b ∷ l) ∷ ls

-- the lines of a script without their line ends (10); "the last line may lack its line end"
unfoldable pub lines_in : List ℕ → List (List ℕ)
lines_in [] = []
lines_in (b ∷ bs) = cond (eqb b 10) ([] ∷ lines_in bs) (on_first b (lines_in bs))

-- the reports of the lines, starting in the state s, each line in the state after the one before it
unfoldable pub lines_text : Resequencer → List (List ℕ) → List ℕ
lines_text s [] = []
lines_text s (l ∷ ls) = line_text s l ++ lines_text (line_next s l) ls

-- `nesn held clocks result` and a line end
unfoldable pub report_header : List ℕ
report_header =
    110 ∷ 101 ∷ 115 ∷ 110 ∷ 32 ∷ 104 ∷ 101 ∷ 108 ∷ 100 ∷ 32 ∷ 99 ∷ 108 ∷ 111 ∷ 99 ∷ 107 ∷ 115 ∷ 32 ∷ 114 ∷ 101 ∷ 115 ∷ 117 ∷ 108 ∷ 116 ∷ 10 ∷ []

-- the whole output for a script: "It prints a header, then one line an event"; "empty input prints
-- the header only"
unfoldable pub script_report : List ℕ → List ℕ
script_report script = report_header ++ lines_text fresh_state (lines_in script)
