-- Two texts of one input are equal, since their courts are one.
use Rattle.std.proofs.Common.{◌∙◌, refl, sym}
use Rattle.court_clock.specs.Words.{TextsNameClocks}
use Rattle.court_days.proofs.CallerLemmas.{same_court}
use Rattle.office_texts.proofs.RunLemmas.CallerLemmas.{run_text_alike}
use Rattle.program_runs.specs.Words.{court_part}
use Rattle.program_runs.proofs.CallerLemmas.{read_file}
use Rattle.clerk_program.specs.UniqueText.{TextsAreUnique}

pub texts_are_unique_lem : TextsNameClocks → TextsAreUnique
texts_are_unique_lem clocks journal another bytes input first second said one other =
    let same = same_court clocks (court_part bytes) input.file (read_file 1 bytes input said) one.court other.court one.is_court other.is_court in
    one.is_text.by_one refl ∙ run_text_alike one.court other.court input.rows same ∙ sym (other.is_text.by_one refl)
