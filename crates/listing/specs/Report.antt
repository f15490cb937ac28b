-- What is printed of a card and a sheet.
use Rattle.std.specs.Prelude.{ℕ, List, ◌++◌, Some, None, codes, Option}
use Rattle.model.specs.Faults.{fault_text}
use Rattle.model.specs.declared.fault.Fault.{Fault}
use Rattle.formats.specs.Cards.{card_fault}
use Rattle.formats.specs.Listings.{program_text, schedule_text}
use Rattle.formats.specs.Programs.{program, program_of}
use Rattle.formats.specs.Schedules.{schedule, schedule_of}
use Rattle.formats.specs.Sheets.{sheet_fault}
use Rattle.formats.specs.declared.card.Card.{Card}
use Rattle.formats.specs.declared.sheet.Sheet.{Sheet}

-- the program of a card and the moves of a sheet
abbrev pub listed_text : Card → Sheet → List ℕ
listed_text card sheet = program_text (program_of card) ++ schedule_text (schedule_of sheet)

-- the line of a fault, or else a text
abbrev pub or_fault : Option Fault → List ℕ → List ℕ
or_fault (Some fault) otherwise = fault_text fault ++ codes "\n"
or_fault None otherwise = otherwise

-- the card's fault, else the sheet's, else the program and the moves
abbrev pub report_text : List ℕ → List ℕ → List ℕ
report_text card sheet =
    or_fault (card_fault card) (or_fault (sheet_fault sheet) (program_text (program card) ++ schedule_text (schedule sheet)))
