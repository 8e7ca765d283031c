-- What these definitions come to.
use Rattle.std.specs.Prelude.{◌≡◌, ℕ, []}
use Rattle.court_days.specs.Words.{CourtView}
use Rattle.office_texts.specs.Run.Words.{line_of}
use Rattle.office_texts.specs.declared.run.reply.Reply.{Reply}
use Rattle.office_texts.specs.Named.Named.{named_line_of}

-- Where no case has a name, a reply is written as clerk_office writes it.
abbrev pub WithoutNamesAsBefore : Type 0
WithoutNamesAsBefore = (court : CourtView) (number clerk : ℕ) (reply : Reply) → named_line_of court [] number clerk reply ≡ line_of court number clerk reply
