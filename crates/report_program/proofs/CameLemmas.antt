-- What comes of rows, one after another.
use Rattle.std.proofs.Common.{◌≡◌, ◌∙◌, ◌+◌, ◌<◌, ◌≤◌, ℕ, List, ◌∷◌, ◌++◌, Option, length, drop, get_or, option_to_list, append_assoc, append-nil, sym, ap}
use Rattle.std.proofs.lemmas.List.{at_drop_more, at_drop_all}
use Rattle.docket_rows.specs.Words.{CourtSetup, Rows}
use Rattle.row_forms.specs.declared.numbered.NumberedRow.{NumberedRow}
use Rattle.office_texts.specs.declared.run.reply.Reply.{Reply}
use Rattle.office_texts.specs.Run.Words.{docketed_then, reply_to}
use Rattle.report_program.specs.Changes.{come_of}

-- what comes of one row more
pub come_more : {A : Type 0} (came : NumberedRow → Reply → Option A) (setup : CourtSetup) (docketed : Rows) (rows : List NumberedRow) (i : ℕ) (n : NumberedRow) (old new whole : List A)
    → i < length rows → n ≡ get_or rows i n → new ≡ old ++ option_to_list (came n (reply_to setup docketed n.row.work)) → old ++ come_of came setup docketed (drop i rows) ≡ whole
    → new ++ come_of came setup (docketed_then setup docketed n.row.work) (drop (i + 1) rows) ≡ whole
unfolding come_of
come_more came setup docketed rows i n old new whole within is added all =
    let rest = come_of came setup (docketed_then setup docketed n.row.work) (drop (i + 1) rows) in
    let step = at_drop_more (come_of came setup docketed) rows i n within ∙ ap (λ (r : NumberedRow). come_of came setup docketed (r ∷ drop (i + 1) rows)) (sym is) in
    ap (λ t. t ++ rest) added ∙ append_assoc old (option_to_list (came n (reply_to setup docketed n.row.work))) rest ∙ ap (λ t. old ++ t) (sym step) ∙ all

-- of no row more
pub come_all : {A : Type 0} (came : NumberedRow → Reply → Option A) (setup : CourtSetup) (docketed : Rows) (rows : List NumberedRow) (i : ℕ) (old whole : List A)
    → length rows ≤ i → old ++ come_of came setup docketed (drop i rows) ≡ whole → old ≡ whole
unfolding come_of
come_all came setup docketed rows i old whole past all =
    sym (append-nil old) ∙ ap (λ t. old ++ t) (sym (at_drop_all (come_of came setup docketed) rows i past)) ∙ all
