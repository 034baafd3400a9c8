use Rattle.pm_file.proofs.device.FilePm.of_length.Goals as goal

pub returns-in_default-clause-volume : goal.returns-in_default-clause-volume
returns-in_default-clause-volume g c = λ file. let found = c.in_default.ensures.found file in cc
