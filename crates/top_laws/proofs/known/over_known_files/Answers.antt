use Rattle.top_laws.proofs.OverFiles.{complete_over_files, cut_over_files, exact_over_files, job_over_files, unread_over_files}
use Rattle.top_laws.proofs.known.over_known_files.Goals as goal

pub returns-clause-exact : goal.returns-clause-exact
returns-clause-exact c = exact_over_files

pub returns-clause-complete : goal.returns-clause-complete
returns-clause-complete c = complete_over_files

pub returns-clause-unread : goal.returns-clause-unread
returns-clause-unread c = unread_over_files

pub returns-clause-cut : goal.returns-clause-cut
returns-clause-cut c = cut_over_files

pub returns-clause-of_job : goal.returns-clause-of_job
returns-clause-of_job c = job_over_files
