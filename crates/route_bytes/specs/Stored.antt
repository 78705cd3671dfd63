-- The table of interrogators in bytes that a caller lends: document 01, "Interrogators and ground
-- addresses", for callers that use only numbers. An answer is one number: the refusal number, 0 for
-- done, plus 256 times the value. After a refusal the value is 0.
-- Assumes nothing.
use Rattle.std.specs.Prelude.{Bool, cond, List, ℕ, ◌+◌, ◌*◌, min, leb, eqb, length, Result, Ok, Err, Option, Some, None}
use Rattle.refusal.specs.declared.Refusal.TheVariants.{OutputTooShort, NotInOrder}
use Rattle.refusal.specs.Numbers.{number_of, value_by, check, refusal_number, Verdict}
use Rattle.lists.specs.Lists.{over}
use Rattle.little.specs.Little.{little_list, list_bytes}
use Rattle.route_choice.specs.Choosing.{choice_code, choose_of}
use Rattle.route.specs.declared.Table.{Table}
use Rattle.route.specs.declared.Updated.{Updated}
use Rattle.route.specs.Updating.{empty_table, codes_of, count_of, choose_for, update_of}
use Rattle.refusal.specs.declared.Refusal.{Refusal}

-- a table has exactly 512 bytes
abbrev pub is_table : List ℕ → Bool
is_table b = eqb (length b) 512

-- the table in these bytes: for each of the 256 ground addresses, in their order, its set of codes
-- in two bytes, the low byte first
abbrev pub table_in : List ℕ → Table
table_in b = record { codes = little_list 2 256 b }

-- the bytes of a table, in the same layout
abbrev pub table_bytes : Table → List ℕ
table_bytes t = list_bytes 2 t.codes

-- 14, "the state is not in good order": the answer if a table does not have 512 bytes
abbrev pub no_table : ℕ
no_table = number_of NotInOrder

-- ---- the empty table

-- 0 for done, or 14
abbrev pub empty_answer : List ℕ → ℕ
empty_answer b = cond (is_table b) 0 no_table

-- the lent bytes afterwards: an empty table, or unchanged after a refusal
abbrev pub empty_bytes : List ℕ → List ℕ
empty_bytes b = cond (is_table b) (table_bytes empty_table) b

-- ---- questions about one address

-- the value is the set of the codes of address a: bit i of it is code i
abbrev pub codes_answer : List ℕ → ℕ → ℕ
codes_answer b a = cond (is_table b) (256 * codes_of (table_in b) a) no_table

-- the value is the number of interrogators of address a
abbrev pub count_answer : List ℕ → ℕ → ℕ
count_answer b a = cond (is_table b) (256 * count_of (table_in b) a) no_table

-- the last-used code as a number: 65535 is none. A code is one byte, so a number over 255 is taken
-- as 255; like every code over 15 it is refused with 1.
abbrev pub last_in : ℕ → Option ℕ
last_in n = cond (eqb n 65535) None (Some (min n 255))

-- a choice as one number: the value is the code
abbrev pub choice_answer : Result ℕ Refusal → ℕ
choice_answer c = refusal_number c + 256 * choice_code c

-- the choice for address a; `failed` is the set of the failed codes
abbrev pub choose_answer : List ℕ → ℕ → ℕ → ℕ → ℕ
choose_answer b a last failed = cond (is_table b) (choice_answer (choose_for (table_in b) a (last_in last) failed)) no_table

-- the same choice from a set of codes that the caller has
abbrev pub choose_among_answer : ℕ → ℕ → ℕ → ℕ
choose_among_answer codes last failed = choice_answer (choose_of codes (last_in last) failed)

-- ---- the update

-- the update of the table in these bytes
unfoldable pub update_in : List ℕ → List ℕ → Updated
update_in b list = update_of (table_in b) list

-- the checks in the order 14, 5, 6: the table has 512 bytes, there are 256 places for the addresses
-- reported, and then that of the update
unfoldable pub update_checks : List ℕ → List ℕ → ℕ → Verdict
update_checks b list places =
    check (is_table b) NotInOrder
    (check (leb 256 places) OutputTooShort
    (update_in b list).verdict)

-- the value is the count of the addresses that lost their last code, 0 after a refusal
unfoldable pub update_answer : List ℕ → List ℕ → ℕ → ℕ
update_answer b list places = refusal_number (update_checks b list places) + 256 * value_by (update_checks b list places) (update_in b list).count

-- `written` if the update is done, `kept` if it is refused
abbrev pub if_done : Verdict → List ℕ → List ℕ → List ℕ
if_done (Ok tt) written kept = written
if_done (Err why) written kept = kept

-- the table's bytes afterwards
unfoldable pub update_bytes : List ℕ → List ℕ → ℕ → List ℕ
update_bytes b list places = if_done (update_checks b list places) (table_bytes (update_in b list).next) b

-- the report afterwards: the first 256 places are written, the unused ones of them with 0, and
-- places past them keep what they held
unfoldable pub update_lost : List ℕ → List ℕ → List ℕ → List ℕ
update_lost b list lost = if_done (update_checks b list (length lost)) (over (update_in b list).lost lost) lost
