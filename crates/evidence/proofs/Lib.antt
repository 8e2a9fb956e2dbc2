mod FirstRun
